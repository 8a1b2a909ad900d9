use Rattle.std.proofs.Common.{length}
use Rattle.audit.proofs.ValueLemmas.{HasPassedOn}
use Rattle.audit.proofs.values.from_space.Given as goal

abbrev pub invariant-bytes : goal.invariant-bytes
invariant-bytes l = HasPassedOn l.bytes l.left

abbrev pub decreases-bytes : goal.decreases-bytes
decreases-bytes l = length l.left
