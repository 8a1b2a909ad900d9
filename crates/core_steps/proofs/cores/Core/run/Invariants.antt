use Rattle.std.proofs.Common.{◌≡◌, length, map, take}
use Rattle.core_steps.specs.Queries.{asked, divided}
use Rattle.core_steps.specs.Steps.{HasRun, asked_by}
use Rattle.core_steps.proofs.cores.Core.run.Given as goal

-- the outcomes so far are those of the steps so far
abbrev pub invariant-loop-step : goal.invariant-loop-step
invariant-loop-step g l = record {
  run : HasRun (asked g.K.Ord.cmp g.V.PartialEq.eq g.Q.Asks.target_of g.Q.Asks.answered) (divided g.K.PathKey.path_of g.Q.Bulk.decides) l.fn.self (map asked_by (take l.step-index l.steps)) l.outcomes.items l.self;
  count : length l.outcomes.items ≡ l.step-index;
}
