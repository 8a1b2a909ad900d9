use Rattle.std.proofs.Common.{take}
use Rattle.std.specs.List.{AllZip}
use Rattle.trie_shape.specs.Counts.{node_count}
use Rattle.trie_shape.specs.Outline.{children}
use Rattle.trie_shape.specs.View.{tree}
use Rattle.trie_values.specs.Values.{IsMade, MayAnswer}
use Rattle.trie_values.proofs.mapping.+map_subtrie.Given as goal

-- a child has fewer nodes
abbrev pub decreases-map_subtrie : goal.decreases-map_subtrie
decreases-map_subtrie g l = node_count (tree l.node.now)

-- the children so far
abbrev pub invariant-loop-n : goal.invariant-loop-n
invariant-loop-n g l = AllZip (λ t n. IsMade (MayAnswer g.F.Fn l.change) l.stamp.0 t (tree n)) (take l.n (children (tree l.node))) l.children.items
