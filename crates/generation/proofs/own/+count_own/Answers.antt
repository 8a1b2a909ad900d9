use Rattle.std.proofs.Common.{rules, ◌≡◌, ◌+◌, ◌<◌, ◌==◌, cond, length, arith}
use Rattle.trie_shape.specs.Outline.{children, stamp_of}
use Rattle.trie_shape.specs.View.{tree}
use Rattle.generation.proofs.Walk.{fewer_below, own_more, own_within, own_all}
use Rattle.generation.proofs.own.+count_own.Goals as goal

pub child-requires : goal.child-requires
child-requires g t c =
    let long = c.bitmap_counts_children.ensures.count (tree c.args.node.now) c.in-Branch.bitmap c.requires.fits c.in-Branch.ensures in
    omega (arith, long)

pub count_own-count-requires : goal.count_own-count-requires
count_own-count-requires g t c κs within =
    let whole = tree c.args.node.now in
    let long = c.bitmap_counts_children.ensures.count whole c.in-Branch.bitmap c.requires.fits c.in-Branch.ensures in
    let child = tree c.child.result.now in
    let below : c.loop-n.n < length (children whole) = omega (arith, long) in
    let fewer = fewer_below whole c.loop-n.n child below c.child.ensures in
    let fits = c.bitmap_counts_children.ensures.below whole child c.loop-n.n c.requires.fits below c.child.ensures in
    (omega (arith, fewer), (search rules, (search rules, (search rules, (search rules, (search rules, (fits, omega (arith, fewer, c.requires.few))))))))

pub overflow_add-count : goal.overflow_add-count
overflow_add-count g t c =
    let whole = tree c.args.node.now in
    let long = c.bitmap_counts_children.ensures.count whole c.in-Branch.bitmap c.requires.fits c.in-Branch.ensures in
    let more = own_more c.args.own.0 (children whole) c.loop-n.n (tree c.child.result.now) (omega (arith, long)) c.child.ensures in
    let here : c.from-here.result ≡ cond (stamp_of whole == c.args.own.0) 1 0 = search rules in
    omega (arith, here, more, own_within c.args.own.0 whole (c.loop-n.n + 1), c.requires.few)

pub loop-n-preserved : goal.loop-n-preserved
loop-n-preserved g t c =
    let whole = tree c.args.node.now in
    let long = c.bitmap_counts_children.ensures.count whole c.in-Branch.bitmap c.requires.fits c.in-Branch.ensures in
    let more = own_more c.args.own.0 (children whole) c.loop-n.n (tree c.child.result.now) (omega (arith, long)) c.child.ensures in
    omega (arith, more)

pub returns-after-loop-n : goal.returns-after-loop-n
returns-after-loop-n g t c =
    let whole = tree c.args.node.now in
    let long = c.bitmap_counts_children.ensures.count whole c.in-Branch.bitmap c.requires.fits c.in-Branch.ensures in
    let all = own_all c.args.own.0 whole c.loop-n.n (omega (arith, long)) in
    let here : c.from-here.result ≡ cond (stamp_of whole == c.args.own.0) 1 0 = search rules in
    omega (arith, here, all)
