use Rattle.std.proofs.Common.{suc, ◌+◌, ◌-◌, ◌*◌, map}
use Rattle.hash_path.specs.Digits.{word_digits}
use Rattle.trie_shape.specs.View.{tree}
use Rattle.trie_filter.specs.Few.{IsFew, items_of}
use Rattle.trie_values.specs.Values.{MayAnswer}
use Rattle.trie_filter.proofs.Underway.{IsUnderway}
use Rattle.trie_filter.proofs.passing.+passing.Given as goal

-- a child stands one level further
abbrev pub decreases-pass_subtrie : goal.decreases-pass_subtrie
decreases-pass_subtrie g l = 2 * (suc word_digits - l.level) + 1

abbrev pub decreases-pass_children : goal.decreases-pass_children
decreases-pass_children g l = 2 * (suc word_digits - l.level)

-- the children so far
abbrev pub invariant-pass_children-loop-n : goal.invariant-pass_children-loop-n
invariant-pass_children-loop-n g l = record {
  underway : IsUnderway g.K.Ord.cmp g.K.PathKey.path_of (MayAnswer g.F.Fn l.test) l.level l.stamp.0 (tree l.node) l.n l.rest l.row.bitmap l.row.size (map tree (items_of l.row.children));
  few : IsFew l.row.children;
}
