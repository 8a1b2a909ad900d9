use Rattle.std.proofs.Common.{rules, ◌≡◌}
use Rattle.std.specs.Prelude.{Ok}
use Rattle.tambyulo_clients.specs.Seats.{fresh}
use Rattle.example_meeting.proofs.Meetings.{if_ok, put_before_get}
use Rattle.example_meeting.proofs.meeting.met.Goals as goal

pub returns-in-Ok : goal.returns-in-Ok
returns-in-Ok g c =
    let used = c.in-Ok.ensures.used in
    let out : c.in-Ok.out ≡ Ok c.in_ok-out-in-Ok.field-0 = search rules in
    let closed : c.in-Ok.closed ≡ Ok c.in_ok-closed-in-Ok.field-0 = search rules in
    put_before_get _ _ c.args.key.value c.args.value.value used.0 _ _ (fresh 0) (if_ok _ c.in-Ok.out c.in_ok-out-in-Ok.field-0 out used.1) (if_ok _ c.in-Ok.closed c.in_ok-closed-in-Ok.field-0 closed used.2)
