use Rattle.std.proofs.Common.{◌≡◌, map}
use Rattle.std.specs.Sync.Mutex.{mutex_guard_value}
use Rattle.stripes.specs.Stripes.{digits_of, up_to}
use Rattle.stripes.proofs.stripes.Stripes.all_marked.Given as goal

abbrev pub invariant-loop-digit : goal.invariant-loop-digit
invariant-loop-digit g l = digits_of (map mutex_guard_value l.held.items) ≡ up_to l.digit
