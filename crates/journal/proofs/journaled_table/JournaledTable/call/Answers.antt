use Rattle.std.proofs.Common.{subst}
use Rattle.handles.specs.Machine.{Request}
use Rattle.handles.specs.Views.{call_outcome, machine, request_of}
use Rattle.journal.specs.Answers.{IsUnfiled}
use Rattle.journal.proofs.Foresight.{told_err, unfiled_as_foreseen}
use Rattle.journal.proofs.journaled_table.JournaledTable.call.Goals as goal

pub returns-in_err-answer-clause-unfiled : goal.returns-in_err-answer-clause-unfiled
returns-in_err-answer-clause-unfiled g c =
    let kind = machine g.K.Ord.cmp g.V.PartialEq.eq g.Q.Asks.target_of g.Q.Asks.answered in
    let r : Request g.row.K.Denot g.row.V.Denot g.row.Q.Denot = request_of c.args.call in
    let e = c.in_err-answer.field-0.0 in
    let due : IsUnfiled kind c.self.inside.table r e = unfiled_as_foreseen kind c.self.inside.table r call_outcome c.foresee_serve_along.result e c.foresee_serve_along.ensures.now c.in_err-answer.ensures.err.0 c.in_err-answer.ensures.err.1 in
    told_err (λ x. IsUnfiled kind c.args.self.now.state r x) c.from_residual.result e c.from_residual.ensures.1 (subst (λ l. IsUnfiled kind l.state r e) c.self.view_is due)
