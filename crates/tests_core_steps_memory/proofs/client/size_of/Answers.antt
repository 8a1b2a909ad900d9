use Rattle.core_steps.specs.Queries.{divided}
use Rattle.tests_core_steps_memory.proofs.ClientSteps.{size_returned_if}
use Rattle.tests_core_steps_memory.proofs.client.size_of.Goals as goal

pub returns : goal.returns
returns g c =
    let returned = size_returned_if g.K.Ord.cmp g.V.PartialEq.eq g.Q.Asks.target_of g.Q.Asks.answered (divided g.K.PathKey.path_of g.Q.Bulk.decides)
    c.args.core.now c.step.new.self c.args.handle c.in_ok-outcome.outcome c.size_in.result c.in_ok-outcome.ensures.step c.size_in.ensures in
    record { size = returned.0; map = returned.1 }
