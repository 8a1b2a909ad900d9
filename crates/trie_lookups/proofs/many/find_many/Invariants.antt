use Rattle.std.proofs.Common.{◌≡◌, ◌++◌, map, option_map, take, flat_map}
use Rattle.std.specs.Option.{option_to_list}
use Rattle.trie_shape.specs.Map.{value_at}
use Rattle.trie_shape.specs.Roots.{map_of}
use Rattle.trie_shape.specs.View.{tree}
use Rattle.trie_lookups.proofs.many.find_many.Given as goal

-- the answers so far, and then what the look-ups under way will find, are those of the keys so far
abbrev pub invariant-loop-key : goal.invariant-loop-key
invariant-loop-key g l = map (option_map (λ v. g.S.ValueSlots.value_of v.now)) l.answers.items ++ flat_map option_to_list l.ways.items ≡ map (λ key. value_at g.K.Ord.cmp (map_of g.K.Ord.cmp (tree l.root)) (g.Q.Sought.key_of key)) (take l.key-index l.keys)
