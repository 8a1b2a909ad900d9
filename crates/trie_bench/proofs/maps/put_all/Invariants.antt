use Rattle.std.proofs.Common.{◌≡◌}
use Rattle.trie_bench.proofs.maps.put_all.Given as goal

abbrev pub invariant-loop-key : goal.invariant-loop-key
invariant-loop-key g l = l.map.stamp ≡ l.fn.map.stamp
