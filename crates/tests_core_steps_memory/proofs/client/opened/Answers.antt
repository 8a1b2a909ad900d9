use Rattle.core_steps.specs.Queries.{divided}
use Rattle.tests_core_steps_memory.proofs.ClientSteps.{freeze_returns}
use Rattle.tests_core_steps_memory.proofs.client.opened.Goals as goal
use Rattle.tests_core_steps_memory.proofs.client.opened.Goals.{in-Frozen, in_default}

pub returns : goal.returns
returns g c =
    elim c.match-branch-2.branch [
      | in-Frozen w ↦ rw w.result-is (freeze_returns g.K.Ord.cmp g.V.PartialEq.eq g.Q.Asks.target_of g.Q.Asks.answered (divided g.K.PathKey.path_of g.Q.Bulk.decides)
          c.args.core.now c.step.new.self c.args.handle c.args.query.value w.in-Frozen.job c.in_ok-job.field-0 w.in-Frozen.is c.in_ok-job.ensures.step)
      | in_default w ↦ rw w.result-is tt
    ]
