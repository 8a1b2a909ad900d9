use Rattle.std.proofs.Common.{subst}
use Rattle.handles.specs.Views.{call_outcome, request_of}
use Rattle.questions.specs.Program.{ProgramOutcome}
use Rattle.audit.specs.Answers.{IsReplyTo}
use Rattle.audit.proofs.JudgedLemmas.{read_so, call_settled, same_outcome}
use Rattle.audit.proofs.judging.served.Goals as goal

pub returns : goal.returns
returns c =
    let shown = subst (λ (o : ProgramOutcome). IsReplyTo o c.in_ok-shown.shown) (same_outcome c.serve-answer.result) c.in_ok-shown.ensures.shown in
    read_so (request_of c.args.call) c.args.table.now c.serve-answer.new.self (λ y. call_outcome y) c.serve-answer.result c.in_ok-shown.shown c.args.reply.now c.is_shown_as.result (call_settled c.args.call) c.in_ok-shown.ensures.memory c.serve-answer.ensures.step shown c.is_shown_as.ensures
