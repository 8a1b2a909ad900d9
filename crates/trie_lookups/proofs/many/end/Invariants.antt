use Rattle.std.proofs.Common.{◌≡◌, ◌++◌, map, option_map, take, flat_map}
use Rattle.std.specs.Option.{option_to_list}
use Rattle.trie_lookups.proofs.many.end.Given as goal

-- what the look-ups so far find
abbrev pub invariant-loop-place : goal.invariant-loop-place
invariant-loop-place g l = map (option_map (λ v. g.S.ValueSlots.value_of v.now)) l.answers.items ≡ map (option_map (λ v. g.S.ValueSlots.value_of v.now)) l.initial.answers.items ++ flat_map option_to_list (take l.place-index l.place-items)
