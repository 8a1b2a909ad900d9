use Rattle.std.proofs.Common.{◌≡◌, ◌++◌, Some, take, map}
use Rattle.trie_shape.specs.View.{pair_values}
use Rattle.iter.specs.Bunches.{held}
use Rattle.iter.proofs.bunch.push_pairs.Given as goal

-- the pairs so far
abbrev pub invariant-loop-pair : goal.invariant-loop-pair
invariant-loop-pair g l = map held l.bunch.items ≡ map held l.initial.bunch.items ++ map Some (map pair_values (take l.pair-index l.pairs))
