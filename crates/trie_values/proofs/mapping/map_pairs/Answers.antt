use Rattle.std.proofs.Common.{arith, map, subst}
use Rattle.std.proofs.lemmas.Result.{IfOk-weaker}
use Rattle.trie_shape.specs.Tree.{bucket}
use Rattle.trie_shape.specs.View.{pair_values, tree}
use Rattle.trie_values.specs.Values.{IsGiven, IsMade, MayAnswer}
use Rattle.trie_values.proofs.Given.{no_more, one_more}
use Rattle.trie_values.proofs.Made.{bucket_made, leaf_made}
use Rattle.trie_values.proofs.mapping.map_pairs.Goals as goal

pub returns-in-len1 : goal.returns-in-len1
returns-in-len1 g c =
    let gives = MayAnswer g.F.Fn c.args.change.now in
    let item = c.pair-item.result in
    leaf_made gives c.args.stamp.0 c.args.pairs.now item item c.in_ok-pair.pair (tree c.make_leaf.result) (omega arith)
    (subst (λ p. IsGiven gives (p.0, p.1) c.in_ok-pair.pair) c.pair-item.is c.in_ok-pair.ensures) c.make_leaf.ensures

pub loop-pair-preserved : goal.loop-pair-preserved
loop-pair-preserved g c =
    one_more (λ p q. IsGiven (MayAnswer g.F.Fn c.args.change.now) (pair_values p) (pair_values q))
    c.args.pairs.now c.loop-pair.pair-index c.pair-item-in-loop-pair.result c.pair-item-in-loop-pair.result c.loop-pair.all.items c.push.new.self.items c.in_ok-map_pair.field-0
    c.loop-pair-test.true c.loop-pair.invariant c.pair-item-in-loop-pair.is c.in_ok-map_pair.ensures c.in_ok-push.ensures.items

pub returns : goal.returns
returns g c =
    let gives = MayAnswer g.F.Fn c.args.change.now in
    let pairs = c.args.pairs.now in
    let all = no_more (λ p q. IsGiven gives (pair_values p) (pair_values q)) pairs c.loop-pair.pair-index c.loop-pair.all.items c.loop-pair-test.false c.loop-pair.invariant in
    IfOk-weaker c.make_bucket.result _ (λ n. IsMade gives c.args.stamp.0 (bucket c.args.stamp.0 (map pair_values pairs)) (tree n))
    (λ n is. bucket_made gives c.args.stamp.0 pairs c.loop-pair.all.items (tree n) all is) c.make_bucket.ensures
