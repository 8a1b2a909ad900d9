use Rattle.std.proofs.Common.{refl}
use Rattle.handles.specs.Machine.{abandon}
use Rattle.handles.specs.Views.{unit_outcome}
use Rattle.audit.proofs.JudgedLemmas.{read_so}
use Rattle.audit.proofs.judging.abandoned.Goals as goal

pub returns : goal.returns
returns c = read_so (abandon c.args.job) c.args.table.now c.abandon-answer.new.self (λ y. unit_outcome y) c.abandon-answer.result c.in_ok-shown.shown c.args.reply.now c.is_shown_as.result refl c.abandon-answer.ensures.memory c.abandon-answer.ensures.step c.in_ok-shown.ensures.shown c.is_shown_as.ensures
