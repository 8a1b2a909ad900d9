use Rattle.std.proofs.Common.{refl}
use Rattle.handles.specs.Machine.{view}
use Rattle.handles.specs.Views.{view_outcome}
use Rattle.audit.proofs.JudgedLemmas.{read_so}
use Rattle.audit.proofs.judging.viewed.Goals as goal

pub returns : goal.returns
returns c = read_so (view c.args.handle) c.args.table.now c.view-answer.new.self (λ y. view_outcome y) c.view-answer.result c.in_ok-shown.shown c.args.reply.now c.is_shown_as.result refl c.in_ok-shown.ensures.memory c.view-answer.ensures.step c.in_ok-shown.ensures.shown c.is_shown_as.ensures
