use Rattle.std.proofs.Common.{ℕ, ◌+◌, ap, subst}
use Rattle.stripe.specs.Rules.{AllKeep, Belongs}
use Rattle.stripes.proofs.Tallies.{with_those}
use Rattle.stripes.proofs.counting.with_rest.Goals as goal

pub returns-clause-map : goal.returns-clause-map
returns-clause-map g c = λ m sorted behind count.
    let belongs = subst (λ (d : ℕ). AllKeep g.K.Ord.cmp (Belongs g.K.PathKey.path_of g.P.Keeps.holds d) c.args.stripe.now.entries) c.requires.digit c.law.ensures.pairs in
    with_those g.K.Ord.cmp g.met.K.Ord.total c.union_of_maps.ensures.value c.union_of_maps.ensures.map g.K.PathKey.path_of g.P.Keeps.holds c.args.digit c.args.stripe.now.entries belongs m behind c.len.ensures.sorted sorted (c.len.result + c.args.rest) c.args.rest (ap (λ (n : ℕ). n + c.args.rest) c.len.ensures.count) count
