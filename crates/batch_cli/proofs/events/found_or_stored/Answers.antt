use Rattle.std.proofs.Common.{rules, subst, sym}
use Rattle.std.specs.Arc.{arc_value}
use Rattle.batch_cli.specs.Filing.{FilesOrElse}
use Rattle.batch_cli.proofs.Filing.{or_else_refusal, or_else_value}
use Rattle.batch_cli.proofs.events.found_or_stored.Goals as goal

pub returns-in-Ok : goal.returns-in-Ok
returns-in-Ok g c =
    subst (λ reply. FilesOrElse c.args.seat.now c.args.handle (arc_value c.args.key) c.args.value reply c.get_or_else_update.new.seat) (sym c.found.ensures)
    (or_else_value _ c.args.handle (arc_value c.args.key) c.args.value (λ v h. search rules) c.args.seat.now c.get_or_else_update.new.seat c.in-Ok.value c.in-Ok.ensures)

pub returns-in-Err : goal.returns-in-Err
returns-in-Err g c = or_else_refusal _ c.args.handle (arc_value c.args.key) c.args.value (λ v h. search rules) _ c.args.seat.now c.get_or_else_update.new.seat c.in-Err.refusal c.refused.result c.in-Err.ensures c.refused.ensures.filed c.refused.ensures.shown
