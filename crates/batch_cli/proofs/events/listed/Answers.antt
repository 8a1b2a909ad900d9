use Rattle.std.proofs.Common.{refl, ap, Some, sym}
use Rattle.handles.specs.Machine.{view, viewed}
use Rattle.script.specs.declared.reply.LineReply.TheVariants.{Pairs}
use Rattle.batch_cli.proofs.Filing.{filed, refusal_filed}
use Rattle.batch_cli.proofs.events.listed.Goals as goal

pub returns-in_ok-listing_of-in-Ok : goal.returns-in_ok-listing_of-in-Ok
returns-in_ok-listing_of-in-Ok g c = (viewed c.in-Ok.view, filed c.args.seat.now (view c.args.handle) (viewed c.in-Ok.view) c.view.new.seat c.in-Ok.ensures refl, ap (λ pairs. Some (Pairs pairs)) (sym c.in_ok-listing_of-in-Ok.ensures))

pub returns-in-Err : goal.returns-in-Err
returns-in-Err g c = refusal_filed c.args.seat.now c.view.new.seat (view c.args.handle) c.in-Err.refusal c.refused.result c.in-Err.ensures c.refused.ensures.filed c.refused.ensures.shown
