use Rattle.std.specs.Arc.{arc_value}
use Rattle.tambyulo_clients.specs.Machine.{open_handle}
use Rattle.example_meeting.proofs.Meetings.{put_then_got}
use Rattle.example_meeting.proofs.meeting.put_then_get.Goals as goal

-- src/meeting.rt:52:1
pub returns : goal.returns
returns g c =
    put_then_got (arc_value c.args.key) (arc_value c.args.value) c.args.first.now c.call.new.seat c.call-2.new.seat c.meet.new.self c.args.second.now c.meet.new.other c.call-3.new.seat (open_handle 1) _ _ _ _
    c.requires.first c.requires.second c.in_ok-again.ensures c.in_ok-call.ensures.adds c.in_ok-call-2.ensures.adds c.meet.ensures.mine c.meet.ensures.theirs c.in_ok-call-3.ensures.adds
