use Rattle.std.proofs.Common.{map, take}
use Rattle.trie_shape.specs.View.{pair_values}
use Rattle.trie_filter.specs.Few.{IsFew, items_of}
use Rattle.trie_filter.specs.Passing.{AreChosen}
use Rattle.trie_values.specs.Values.{MayAnswer}
use Rattle.trie_filter.proofs.passing.pass_pairs.Given as goal

-- the pairs so far
abbrev pub invariant-loop-pair : goal.invariant-loop-pair
invariant-loop-pair g l = record {
  chosen : AreChosen (MayAnswer g.F.Fn l.test) (map pair_values (take l.pair-index l.pairs)) (map pair_values (items_of l.left));
  few : IsFew l.left;
}
