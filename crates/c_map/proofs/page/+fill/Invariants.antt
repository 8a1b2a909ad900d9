use Rattle.std.proofs.Common.{◌≡◌, ◌≤◌, take}
use Rattle.std.specs.List.{flat_map}
use Rattle.trie_shape.specs.Counts.{node_count}
use Rattle.trie_shape.specs.Outline.{children}
use Rattle.trie_shape.specs.Tree.{entries}
use Rattle.trie_shape.specs.View.{tree}
use Rattle.c_map.specs.Fillings.{filled}
use Rattle.c_map.specs.Pages.{spelled}
use Rattle.c_map.proofs.page.+fill.Given as goal

-- a child has fewer nodes
abbrev pub decreases-fill : goal.decreases-fill
decreases-fill g l = node_count (tree l.node.now)

-- the page with the pairs of the children so far
abbrev pub invariant-loop-n : goal.invariant-loop-n
invariant-loop-n g l = record {
  filled : (l.at, l.buffer) ≡ filled (spelled g.V.Shown.number g.V.Shown.bytes) (l.initial.at, l.initial.buffer) (flat_map entries (take l.n (children (tree l.node))));
  few : l.at.pairs ≤ l.at.used;
}
