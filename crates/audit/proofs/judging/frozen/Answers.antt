use Rattle.std.proofs.Common.{refl}
use Rattle.std.specs.Arc.{arc_value}
use Rattle.handles.specs.Machine.{freeze}
use Rattle.handles.specs.Views.{frozen_outcome}
use Rattle.audit.proofs.JudgedLemmas.{texted_so}
use Rattle.audit.proofs.judging.frozen.Goals as goal

pub returns : goal.returns
returns c = texted_so (freeze c.args.handle (arc_value c.args.query)) c.args.table.now c.freeze-answer.new.self (λ y. frozen_outcome y) c.freeze-answer.result c.args.reply.now c.is_frozen_so.result refl c.is_frozen_so.ensures.memory c.freeze-answer.ensures.step c.is_frozen_so.ensures.told
