use Rattle.std.proofs.Common.{length}
use Rattle.audit.proofs.SpaceLemmas.{HasPassed}
use Rattle.audit.proofs.pairs.front_of.Given as goal

abbrev pub invariant-bytes : goal.invariant-bytes
invariant-bytes l = HasPassed l.bytes l.left

abbrev pub decreases-bytes : goal.decreases-bytes
decreases-bytes l = length l.left
