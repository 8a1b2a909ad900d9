use Rattle.std.proofs.Common.{Bool, refl, sym, subst}
use Rattle.std.specs.Prelude.{MatchBool}
use Rattle.bulk_work.specs.Answers as plain
use Rattle.bulk_ops.specs.Queries.{answer_of}
use Rattle.bulk_work.specs.Summaries.{summary_of}
use Rattle.handles.specs.Machine.{finish}
use Rattle.handles.specs.Views.{finished_outcome}
use Rattle.audit.specs.Answers.{Answers, NoneAnswers}
use Rattle.audit.proofs.FinishLemmas.{finished_so}
use Rattle.audit.proofs.ReplyPartLemmas.{told_part}
use Rattle.audit.proofs.judging.finished.Goals as goal

pub returns : goal.returns
returns c =
    let tells = told_part c.in-Some.query.now c.in-Some.view.now c.args.reply.now c.in_ok-part.field-0 c.in-Some-2.part c.in-Some-2.is c.in_ok-part.ensures in
    subst (λ (b : Bool). MatchBool b (Answers c.args.table.now (finish c.args.job) c.args.reply.now c.finish.new.self) (NoneAnswers c.args.table.now (finish c.args.job) c.args.reply.now)) (sym c.is_ok.ensures.value)
    (finished_so c.args.table.now c.finish.new.self c.args.job (record { query = c.in-Some.query.now; frozen = c.in-Some.view.now }) (λ y. finished_outcome y) (λ y. summary_of y) c.finish.result (plain.summary (answer_of c.in-Some-2.part)) c.args.reply.now
    (sym c.in-Some.ensures) (λ x. refl) c.finish.ensures.memory c.finish.ensures.step c.finish.ensures.told tells)
