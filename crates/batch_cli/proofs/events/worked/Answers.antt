use Rattle.std.proofs.Common.{subst, sym}
use Rattle.handles.specs.Machine.{freeze}
use Rattle.batch_cli.specs.Filing.{FilesService}
use Rattle.batch_cli.proofs.Filing.{bulk_refused, bulk_returned}
use Rattle.batch_cli.proofs.events.worked.Goals as goal

pub returns-in-Ok : goal.returns-in-Ok
returns-in-Ok g c =
    subst (λ reply. FilesService c.args.seat.now (freeze c.args.handle c.args.query.value) reply c.bulk.new.seat) (sym c.reply_to_answer.ensures)
    (bulk_returned _ _ c.args.handle c.args.query.value c.args.seat.now c.bulk.new.seat c.in-Ok.answer c.in-Ok.ensures)

pub returns-in-Err : goal.returns-in-Err
returns-in-Err g c = bulk_refused _ _ c.args.handle c.args.query.value c.args.seat.now c.bulk.new.seat _ c.refused.result c.in-Err.ensures c.refused.ensures.filed c.refused.ensures.shown
