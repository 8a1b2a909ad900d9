use Rattle.std.proofs.Common.{◌≡◌, ◌+◌, take, sum_by}
use Rattle.trie_shape.specs.Outline.{children}
use Rattle.trie_shape.specs.View.{tree}
use Rattle.trie_shape.specs.Counts.{node_count}
use Rattle.generation.specs.Owned.{own_below}
use Rattle.generation.proofs.own.+count_own.Given as goal

-- a child has fewer nodes
abbrev pub decreases-count_own : goal.decreases-count_own
decreases-count_own g l = node_count (tree l.node.now)

-- the node itself, and the children so far
abbrev pub invariant-loop-n : goal.invariant-loop-n
invariant-loop-n g l = l.count ≡ l.initial.count + sum_by (own_below l.own.0) (take l.n (children (tree l.node)))
