use Rattle.std.proofs.Common.{◌≤◌, arith}
use Rattle.trie_shape.specs.Roots.{word_of}
use Rattle.trie_shape.specs.Shape.{nodes}
use Rattle.trie_shape.specs.View.{tree}
use Rattle.combiner.proofs.Stamps.{none_above}
use Rattle.combiner.proofs.merging.merge.Goals as goal

-- no node of either map has a stamp above the greater of the two
pub from_root-requires-clause-newest : goal.from_root-requires-clause-newest
from_root-requires-clause-newest g c =
    let stamp = c.newer-stamp.result.0 in
    let left : c.args.left.now.stamp ≤ stamp = omega (arith, c.newer-stamp.ensures, c.stamp.ensures.stamp, c.stamp-2.ensures.stamp) in
    let right : c.args.right.now.stamp ≤ stamp = omega (arith, c.newer-stamp.ensures, c.stamp.ensures.stamp, c.stamp-2.ensures.stamp) in
    c.in_ok-root.ensures.stamps stamp (omega arith)
    (none_above c.args.left.now.stamp stamp c.args.left.now.nodes (nodes (word_of g.K.PathKey.path_of) (tree c.root.result.now)) left c.root.ensures.nodes c.stamp.ensures.newest)
    (none_above c.args.right.now.stamp stamp c.args.right.now.nodes (nodes (word_of g.K.PathKey.path_of) (tree c.root-2.result.now)) right c.root-2.ensures.nodes c.stamp-2.ensures.newest)
