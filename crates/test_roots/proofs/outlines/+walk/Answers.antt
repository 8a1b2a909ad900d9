use Rattle.std.proofs.Common.{rules, ◌<◌, length, arith}
use Rattle.trie_shape.specs.Outline.{children}
use Rattle.trie_shape.specs.View.{tree}
use Rattle.test_roots.proofs.outlines.+walk.Goals as goal

pub walk-requires : goal.walk-requires
walk-requires g t c κs within =
    let whole = tree c.args.node.now in
    let law = c.bitmap_counts_children.ensures in
    let long : c.loop-n.n < length (children whole) = omega (arith, law.count whole c.in-Branch.bitmap c.requires.fits c.in-Branch.ensures) in
    (omega arith, (search rules, (law.below whole (tree c.child.result.now) c.loop-n.n c.requires.fits long c.child.ensures, omega arith)))
