use Rattle.std.proofs.Common.{sym, ◌∙◌, subst}
use Rattle.trie_shape.specs.Roots.{map_of, word_of}
use Rattle.trie_shape.specs.Shape.{NoneAbove, nodes}
use Rattle.trie_shape.specs.View.{tree}
use Rattle.stripes.proofs.Placing.{each_has_digit}
use Rattle.stripes.proofs.joining.with_stripe.Goals as goal

pub take-requires-clause-each : goal.take-requires-clause-each
take-requires-clause-each g c =
    let part = map_of g.K.Ord.cmp (tree c.root.result.now) in
    each_has_digit g.K.Ord.cmp g.K.PathKey.path_of g.P.Keeps.holds c.args.stripe.now.digit c.first_digit.result c.args.stripe.now.entries part c.first_digit.ensures (c.root.ensures.entries ∙ c.whole-part.ensures) c.law.ensures.pairs

pub take-requires-clause-newest : goal.take-requires-clause-newest
take-requires-clause-newest g c =
    let all = nodes (word_of g.K.PathKey.path_of) (tree c.root.result.now) in
    subst (λ n. NoneAbove n all) (sym c.stamp.ensures.stamp) (subst (λ ns. NoneAbove c.whole-part.result.now.stamp ns) (sym c.root.ensures.nodes) c.stamp.ensures.newest)
