use Rattle.std.proofs.Common.{ap, subst, sym}
use Rattle.std.specs.Prelude.{Err}
use Rattle.handles.specs.Machine.{State, Request, snapshot}
use Rattle.handles.specs.Views.{Foresees, call_outcome, machine, request_of, unit_outcome}
use Rattle.handles.proofs.Foreseen.{refused_alike}
use Rattle.handles.proofs.table.Table.foresee_serve_along.Goals as goal

pub returns-in-Err-foresee_snapshot-clause-now : goal.returns-in-Err-foresee_snapshot-clause-now
returns-in-Err-foresee_snapshot-clause-now g c =
    let kind = machine g.K.Ord.cmp g.V.PartialEq.eq g.Q.Asks.target_of g.Q.Asks.answered in
    let s : State g.row.K.Denot g.row.V.Denot g.row.Q.Denot = c.args.self.now in
    let e = c.in-Err-foresee_snapshot.refusal in
    subst (λ (r : Request g.row.K.Denot g.row.V.Denot g.row.Q.Denot). Foresees kind s r call_outcome (Err e)) (sym (ap request_of c.in-Snapshot.is))
    (refused_alike kind s (snapshot c.in-Snapshot.handle c.in-Snapshot.to) unit_outcome call_outcome e c.in-Err-foresee_snapshot.ensures.now)
