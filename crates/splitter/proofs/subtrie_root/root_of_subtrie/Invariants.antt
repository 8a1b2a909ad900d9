use Rattle.std.proofs.Common.{◌≡◌, ◌<◌, ◌≤◌}
use Rattle.trie_shape.specs.Tree.{HasTwoWords, IsTrie, entries}
use Rattle.trie_shape.specs.View.{tree}
use Rattle.splitter.proofs.subtrie_root.root_of_subtrie.Given as goal

-- the root so far has the pairs, and stands at its level
abbrev pub invariant-loop-at : goal.invariant-loop-at
invariant-loop-at g l = record {
  within : l.at ≤ l.level;
  trie : IsTrie g.K.Ord.cmp g.K.PathKey.path_of l.at (tree l.root);
  two : 0 < l.at → HasTwoWords g.K.Ord.cmp g.K.PathKey.path_of (entries (tree l.root));
  same : entries (tree l.root) ≡ entries (tree l.initial.root);
}

abbrev pub decreases-loop-at : goal.decreases-loop-at
decreases-loop-at g l = l.at
