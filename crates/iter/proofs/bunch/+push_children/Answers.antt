use Rattle.std.proofs.Common.{rules, length, map, ap, ◌∙◌, arith}
use Rattle.std.proofs.lemmas.List.{length-map}
use Rattle.trie_shape.specs.Tree.{entries}
use Rattle.trie_shape.specs.View.{pair_values, tree}
use Rattle.iter.specs.Bunches.{held}
use Rattle.iter.proofs.Bunches.{node_within, nodes_opened, pairs_opened, pushed_more, room_for_child}
use Rattle.iter.proofs.bunch.+push_children.Goals as goal
use Rattle.iter.proofs.bunch.+push_children.Goals.{in-Pairs, in-Branch}

-- the children before it and the child itself have no more pairs than the row
pub push_pairs-requires : goal.push_pairs-requires
push_pairs-requires g t c =
    let child = c.child-item.result in
    let pairs = c.in-Pairs.pairs.now in
    let room = room_for_child c.args.row.now child c.loop-child.child-index c.loop-child.bunch.items c.args.bunch.now.items c.loop-child-test.true c.child-item.is c.loop-child.invariant in
    omega (arith, room, ap (λ u. length (entries u)) c.in-Pairs.ensures, length-map pairs pair_values, c.requires.room)

pub push_children-requires : goal.push_children-requires
push_children-requires g t c κs within =
    let row = c.args.row.now in
    let child = c.child-item.result in
    let n = c.loop-child.child-index in
    let below = c.in-Branch.below in
    let room = room_for_child row child n c.loop-child.bunch.items c.args.bunch.now.items c.loop-child-test.true c.child-item.is c.loop-child.invariant in
    let pairs = pairs_opened (tree child) below c.in-Branch.ensures in
    let nodes = nodes_opened (tree child) below c.in-Branch.ensures in
    let fewer = node_within row child n c.loop-child-test.true c.child-item.is in
    (omega (arith, nodes, fewer), (search rules, (search rules, (search rules, (search rules, (search rules, (search rules, omega (arith, room, ap length pairs, c.requires.room))))))))

pub loop-child-preserved : goal.loop-child-preserved
loop-child-preserved g t c =
    let row = c.args.row.now in
    let child = c.child-item.result in
    let old = c.args.bunch.now.items in
    let mid = c.loop-child.bunch.items in
    let new = c.match-open_node.bunch.items in
    elim c.match-open_node.branch [
      | in-Pairs w ↦
          pushed_more row child c.loop-child.child-index _ new mid old c.loop-child-test.true c.child-item.is (ap entries w.in-Pairs.ensures) c.loop-child.invariant (ap (λ b. map held b.items) w.bunch-is ∙ w.push_pairs.ensures)
      | in-Branch w ↦
          pushed_more row child c.loop-child.child-index _ new mid old c.loop-child-test.true c.child-item.is (pairs_opened (tree child) w.in-Branch.below w.in-Branch.ensures) c.loop-child.invariant (ap (λ b. map held b.items) w.bunch-is ∙ w.push_children.ensures)
    ]
