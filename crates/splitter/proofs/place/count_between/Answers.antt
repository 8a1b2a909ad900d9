use Rattle.std.proofs.Common.{◌+◌, ◌<◌, length, arith}
use Rattle.trie_shape.specs.Outline.{children}
use Rattle.trie_shape.specs.View.{tree}
use Rattle.splitter.proofs.Rows.{count_more, fewer_between}
use Rattle.splitter.proofs.place.count_between.Goals as goal

pub overflow_add-total : goal.overflow_add-total
overflow_add-total g c =
    let t = tree c.args.branch.now in
    let u = tree c.child.result.now in
    let n = c.loop-n.n in
    let there : n < length (children t) = omega (arith, c.loop-n-test.true, c.requires.within) in
    let size = c.size-total.ensures (c.bitmap_counts_children.ensures.below t u n c.requires.fits there c.child.ensures) in
    let more = count_more (children t) c.args.from n u (omega arith) there c.child.ensures in
    let few = fewer_between c.args.from (n + 1) (children t) in
    omega (arith, c.loop-n.invariant, size, more, few, c.requires.all, c.size-all.ensures c.requires.fits)

pub loop-n-preserved : goal.loop-n-preserved
loop-n-preserved g c =
    let t = tree c.args.branch.now in
    let u = tree c.child.result.now in
    let n = c.loop-n.n in
    let there : n < length (children t) = omega (arith, c.loop-n-test.true, c.requires.within) in
    let size = c.size-total.ensures (c.bitmap_counts_children.ensures.below t u n c.requires.fits there c.child.ensures) in
    omega (arith, c.loop-n.invariant, size, count_more (children t) c.args.from n u (omega arith) there c.child.ensures)
