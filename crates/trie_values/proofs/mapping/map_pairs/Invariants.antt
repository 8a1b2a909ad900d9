use Rattle.std.proofs.Common.{take}
use Rattle.std.specs.List.{AllZip}
use Rattle.trie_shape.specs.View.{pair_values}
use Rattle.trie_values.specs.Values.{IsGiven, MayAnswer}
use Rattle.trie_values.proofs.mapping.map_pairs.Given as goal

-- the pairs so far
abbrev pub invariant-loop-pair : goal.invariant-loop-pair
invariant-loop-pair g l = AllZip (λ p q. IsGiven (MayAnswer g.F.Fn l.change) (pair_values p) (pair_values q)) (take l.pair-index l.pairs) l.all.items
