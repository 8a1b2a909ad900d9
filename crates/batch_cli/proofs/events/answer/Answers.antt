use Rattle.handles.specs.Views.{asked_of}
use Rattle.batch_cli.proofs.Filing.{answered_as_served, not_or_else}
use Rattle.batch_cli.proofs.events.answer.Goals as goal

pub returns-in_ok-request-in_default : goal.returns-in_ok-request-in_default
returns-in_ok-request-in_default g c =
    answered_as_served c.args.seat.now c.requested.new.seat c.args.statement.now (asked_of c.in_ok-request-in_default.request) c.requested.result c.in_ok-request-in_default.ensures.request
    (not_or_else c.args.statement.now c.in_default.not-GetOrElse) c.requested.ensures
