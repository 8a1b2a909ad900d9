use Rattle.std.proofs.Common.{rules, refl}
use Rattle.versions.specs.declared.refusal.Refusal.TheVariants.{NoMemory}
use Rattle.std.specs.Arc.{arc_value}
use Rattle.handles.specs.Views.{machine}
use Rattle.locked_map.proofs.Getting.{put_refused, put_tells_value}
use Rattle.locked_map.proofs.shared_map.SharedMap.put_or_find.Goals as goal

pub returns-in_err-value : goal.returns-in_err-value
returns-in_err-value g c = put_refused c.args.handle c.args.key.value c.args.value c.args.seat.now c.args.seat.now NoMemory c.from_residual.result refl (search rules)

pub returns-in_err-mine : goal.returns-in_err-mine
returns-in_err-mine g c = put_refused c.args.handle c.args.key.value c.args.value c.args.seat.now c.args.seat.now NoMemory c.from_residual-in_err-mine.result refl (search rules)

pub value_in-requires : goal.value_in-requires
value_in-requires g c =
    let kind = machine g.K.Ord.cmp g.V.PartialEq.eq g.Q.Asks.target_of g.Q.Asks.answered in
    put_tells_value kind c.args.handle (arc_value c.args.key) (arc_value c.in_ok-value.value) c.in_ok-reply.reply c.in_ok-reply.ensures.told
