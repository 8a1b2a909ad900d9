use Rattle.std.proofs.Common.{IfOk, subst, sym}
use Rattle.handles.specs.Machine.{view}
use Rattle.handles.specs.Views.{asked_of, request_of}
use Rattle.batch_cli.specs.Filing.{FilesService}
use Rattle.batch_cli.proofs.Filing.{served_at_once}
use Rattle.batch_cli.proofs.events.requested.Goals as goal

pub returns-in-Call : goal.returns-in-Call
returns-in-Call g c =
    subst (λ request. IfOk c.served.result (λ reply. FilesService c.args.seat.now (asked_of request) reply c.served.new.seat)) (sym c.in-Call.is)
    (served_at_once c.args.seat.now c.served.new.seat (request_of c.in-Call.call) c.served.result c.served.ensures)

pub returns-in-View : goal.returns-in-View
returns-in-View g c =
    subst (λ request. IfOk c.listed.result (λ reply. FilesService c.args.seat.now (asked_of request) reply c.listed.new.seat)) (sym c.in-View.is)
    (served_at_once c.args.seat.now c.listed.new.seat (view c.in-View.handle) c.listed.result c.listed.ensures)
