use Rattle.std.proofs.Common.{rules, ◌<◌, arith, length, sym, ap, ◌∙◌, subst}
use Rattle.std.proofs.lemmas.Result.{IfOk-weaker}
use Rattle.std.proofs.lemmas.Slice.Zip.{AllZip-long}
use Rattle.std.specs.List.{AllZip}
use Rattle.trie_shape.specs.Outline.{children}
use Rattle.trie_shape.specs.View.{tree}
use Rattle.trie_values.specs.Values.{IsMade, MayAnswer}
use Rattle.trie_values.proofs.Given.{no_more, one_more}
use Rattle.trie_values.proofs.Made.{branch_made}
use Rattle.trie_values.proofs.mapping.+map_subtrie.Goals as goal

pub map_subtrie-requires : goal.map_subtrie-requires
map_subtrie-requires g t c κs within =
    let whole = tree c.args.node.now in
    let long = c.bitmap_counts_children.ensures.count whole c.in-Branch.bitmap c.requires.fits c.in-Branch.ensures in
    let child = tree c.child.result.now in
    let below : c.loop-n.n < length (children whole) = omega (arith, long) in
    let fewer = c.branch_is_its_children.ensures.fewer whole child c.loop-n.n below c.child.ensures in
    let fits = c.bitmap_counts_children.ensures.below whole child c.loop-n.n c.requires.fits below c.child.ensures in
    (omega (arith, fewer), (search rules, (search rules, (search rules, (search rules, (search rules, (search rules, (search rules, (search rules, (fits, c.requires.callable))))))))))

pub loop-n-preserved : goal.loop-n-preserved
loop-n-preserved g t c =
    let whole = tree c.args.node.now in
    let long = c.bitmap_counts_children.ensures.count whole c.in-Branch.bitmap c.requires.fits c.in-Branch.ensures in
    let child = tree c.child.result.now in
    one_more (λ t n. IsMade (MayAnswer g.F.Fn c.args.change.now) c.args.stamp.0 t (tree n))
    (children whole) c.loop-n.n child child c.loop-n.children.items c.push.new.self.items c.in_ok-map_subtrie-in-Branch.field-0
    (omega (arith, long)) c.loop-n.invariant c.child.ensures c.in_ok-map_subtrie-in-Branch.ensures c.in_ok-push-in-Branch.ensures.items

pub make_branch-requires : goal.make_branch-requires
make_branch-requires g t c =
    let gives = MayAnswer g.F.Fn c.args.change.now in
    let whole = tree c.args.node.now in
    let long = c.bitmap_counts_children.ensures.count whole c.in-Branch.bitmap c.requires.fits c.in-Branch.ensures in
    let all = no_more (λ t n. IsMade gives c.args.stamp.0 t (tree n)) (children whole) c.loop-n.n c.loop-n.children.items (omega (arith, long)) c.loop-n.invariant in
    ap length c.as_mut_slice.ensures.value ∙ AllZip-long (λ t n. IsMade gives c.args.stamp.0 t (tree n)) (children whole) c.loop-n.children.items all ∙ long

pub returns-after-loop-n : goal.returns-after-loop-n
returns-after-loop-n g t c =
    let gives = MayAnswer g.F.Fn c.args.change.now in
    let whole = tree c.args.node.now in
    let long = c.bitmap_counts_children.ensures.count whole c.in-Branch.bitmap c.requires.fits c.in-Branch.ensures in
    let all = no_more (λ t n. IsMade gives c.args.stamp.0 t (tree n)) (children whole) c.loop-n.n c.loop-n.children.items (omega (arith, long)) c.loop-n.invariant in
    let row = subst (AllZip (λ t n. IsMade gives c.args.stamp.0 t (tree n)) (children whole)) (sym c.as_mut_slice.ensures.value) all in
    IfOk-weaker c.make_branch.result _ (λ n. IsMade gives c.args.stamp.0 whole (tree n))
    (λ n is. branch_made gives c.args.stamp.0 whole (tree n) c.in-Branch.bitmap c.size.result c.as_mut_slice.result.now c.in-Branch.ensures c.requires.fits (c.size.ensures c.requires.fits) row is) c.make_branch.ensures
