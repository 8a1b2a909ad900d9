use Rattle.std.proofs.Common.{ap, sym}
use Rattle.handles.specs.Machine.{State}
use Rattle.handles.proofs.Foreseen.{finish_foreseen}
use Rattle.handles.proofs.table.Table.foresee_finish.Goals as goal

pub returns-in-None-clause-now : goal.returns-in-None-clause-now
returns-in-None-clause-now g c =
    let s : State g.row.K.Denot g.row.V.Denot g.row.Q.Denot = c.args.self.now in
    finish_foreseen g.K.Ord.cmp g.V.PartialEq.eq g.Q.Asks.target_of g.Q.Asks.answered s c.args.job c.self.inside.jobs c.tell_job.result
    (ap (λ (x : State g.row.K.Denot g.row.V.Denot g.row.Q.Denot). x.jobs) c.self.view_is) (sym c.in-None.ensures) c.tell_job.ensures.tells c.tell_job.ensures.memory
