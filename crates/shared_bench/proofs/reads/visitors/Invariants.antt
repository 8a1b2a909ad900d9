use Rattle.std.proofs.Common.{◌≡◌, ◌+◌, vec_len}
use Rattle.shared_bench.proofs.reads.visitors.Given as goal

abbrev pub invariant-loop-reader : goal.invariant-loop-reader
invariant-loop-reader g l = vec_len l.visitors ≡ 1 + l.reader
