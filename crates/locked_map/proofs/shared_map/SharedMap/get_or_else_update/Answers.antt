use Rattle.std.proofs.Common.{rules, refl}
use Rattle.versions.specs.declared.refusal.Refusal.TheVariants.{NoMemory}
use Rattle.std.specs.Arc.{arc_value}
use Rattle.handles.specs.Views.{machine}
use Rattle.locked_map.proofs.Getting.{get_refused, get_tells_value}
use Rattle.locked_map.proofs.shared_map.SharedMap.get_or_else_update.Goals as goal

pub returns-in_err-asked : goal.returns-in_err-asked
returns-in_err-asked g c = get_refused _ c.args.handle c.args.key.value c.args.seat.now c.args.seat.now NoMemory c.from_residual.result refl (search rules)

pub value_in-requires : goal.value_in-requires
value_in-requires g c =
    let kind = machine g.K.Ord.cmp g.V.PartialEq.eq g.Q.Asks.target_of g.Q.Asks.answered in
    get_tells_value kind c.args.handle (arc_value c.in_ok-asked.asked) c.in_ok-reply.reply c.in_ok-reply.ensures.told
