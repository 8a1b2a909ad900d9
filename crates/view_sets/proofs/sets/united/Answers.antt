use Rattle.std.proofs.Common.{arith}
use Rattle.view_sets.proofs.sets.united.Goals as goal

-- both copies have no stamp above the least
pub returns-clause-newest : goal.returns-clause-newest
returns-clause-newest g c = c.merged.ensures.stamps 0 (omega arith) c.in_ok-first.ensures.newest c.in_ok-second.ensures.newest
