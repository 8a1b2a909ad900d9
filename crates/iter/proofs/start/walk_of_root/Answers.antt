use Rattle.std.proofs.Common.{arith, ap}
use Rattle.std.proofs.lemmas.List.{take_all}
use Rattle.std.specs.Int.RustNames.{count_ones}
use Rattle.trie_shape.specs.Outline.{children}
use Rattle.trie_shape.specs.View.{tree}
use Rattle.iter.specs.Subtries.{nodes_of_all}
use Rattle.iter.proofs.Nodes.{same_node_count}
use Rattle.iter.proofs.start.walk_of_root.Goals as goal

pub returns-clause-nodes : goal.returns-clause-nodes
returns-clause-nodes g c =
    λ t root same.
    let u = tree c.args.root.now in
    let long = c.bitmap_counts_children.ensures.count u c.in-Branch.bitmap c.requires.root.fits c.in-Branch.ensures in
    let all = take_all (count_ones c.in-Branch.bitmap) (children u) (omega (arith, long)) in
    let here = c.branch_is_its_children.ensures.nodes u c.in-Branch.bitmap c.in-Branch.ensures in
    omega (arith, c.below.ensures.nodes, ap nodes_of_all all, here, same_node_count t u (c.map_determines_root.ensures t u root c.requires.root same))
