use Rattle.std.proofs.Common.{◌≡◌, map, take, ◌++◌}
use Rattle.trie_shape.specs.View.{pair_values}
use Rattle.trie_copy.proofs.pair_removal.push_pairs.Given as goal

abbrev pub invariant-loop-pair : goal.invariant-loop-pair
invariant-loop-pair g l = map pair_values l.all.items ≡ map pair_values l.initial.all.items ++ map pair_values (take l.pair-index l.pairs)
