use Rattle.std.proofs.Common.{◌≡◌, map, option_map, take}
use Rattle.map_session.proofs.handles.handles_on.Given as goal

-- the handles so far
abbrev pub invariant-loop-value : goal.invariant-loop-value
invariant-loop-value g l = map (option_map g.S.ValueSlots.value_of) l.values.items ≡ map (option_map (λ value. g.S.ValueSlots.value_of value.now)) (take l.value-index l.lent)
