use Rattle.std.proofs.Common.{◌≡◌, suc, ◌+◌, ◌-◌, ◌*◌, map, length, bit_or}
use Rattle.hash_path.specs.Digits.{word_digits}
use Rattle.trie_shape.specs.Tree.{entries_of_all, trees}
use Rattle.trie_shape.specs.View.{tree}
use Rattle.trie_merging.proofs.MergedRows.{IsRow}
use Rattle.trie_merging.proofs.merging.+merging.Given as goal

-- a child stands one level further
abbrev pub decreases-merge_at : goal.decreases-merge_at
decreases-merge_at g l = 3 * (suc word_digits - l.level) + 2

abbrev pub decreases-merge_branches : goal.decreases-merge_branches
decreases-merge_branches g l = 3 * (suc word_digits - l.level) + 1

abbrev pub decreases-merge_children : goal.decreases-merge_children
decreases-merge_children g l = 3 * (suc word_digits - l.level) + 3

-- the children of the digits so far are put together
abbrev pub invariant-merge_branches-loop-digit : goal.invariant-merge_branches-loop-digit
invariant-merge_branches-loop-digit g l = record {
  row : IsRow g.K.Ord.cmp g.K.PathKey.path_of l.level l.stamp.0 (bit_or l.left_bitmap l.right_bitmap) (tree l.left) (tree l.right) l.digit (map tree l.children.items);
  counted : l.pairs ≡ length (entries_of_all (trees (map tree l.children.items)));
}
