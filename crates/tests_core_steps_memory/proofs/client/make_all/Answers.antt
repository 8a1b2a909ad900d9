use Rattle.core_steps.specs.Queries.{divided}
use Rattle.tests_core_steps_memory.proofs.ClientSteps.{run_leaves}
use Rattle.tests_core_steps_memory.proofs.client.make_all.Goals as goal

pub returns-in-Ok : goal.returns-in-Ok
returns-in-Ok g c =
    run_leaves g.K.Ord.cmp g.V.PartialEq.eq g.Q.Asks.target_of g.Q.Asks.answered (divided g.K.PathKey.path_of g.Q.Bulk.decides)
    c.args.core.now c.run.new.self _ _ c.in-Ok.ensures.run

pub returns : goal.returns
returns g c =
    run_leaves g.K.Ord.cmp g.V.PartialEq.eq g.Q.Asks.target_of g.Q.Asks.answered (divided g.K.PathKey.path_of g.Q.Bulk.decides)
    c.args.core.now c.run.new.self _ _ c.in-Err.ensures.err
