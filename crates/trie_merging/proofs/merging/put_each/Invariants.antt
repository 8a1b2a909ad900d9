use Rattle.std.proofs.Common.{map, take}
use Rattle.trie_merging.specs.Merges.{PutsEach}
use Rattle.trie_shape.specs.View.{tree, pair_values}
use Rattle.trie_merging.proofs.merging.put_each.Given as goal

abbrev pub invariant-loop-old : goal.invariant-loop-old
invariant-loop-old g l = PutsEach g.K.Ord.cmp g.K.PathKey.path_of l.level l.stamp.0 (g.C.Condition.holds l.condition) (take l.old-index (map pair_values l.pairs)) (tree l.node) (tree l.all)
