use Rattle.std.proofs.Common.{ℕ, length, ap, arith, subst}
use Rattle.stripe.specs.Rules.{AllKeep, Belongs}
use Rattle.stripes.proofs.Moments.{before, kept_more, mine, none_more}
use Rattle.stripes.proofs.moment.with_next.Goals as goal

pub returns-clause-none : goal.returns-clause-none
returns-clause-none g c =
    let belongs = subst (λ (d : ℕ). AllKeep g.K.Ord.cmp (Belongs g.K.PathKey.path_of g.P.Keeps.holds d) c.args.stripe.now.entries) c.requires.digit c.law.ensures.pairs in
    none_more g.K.Ord.cmp g.K.PathKey.path_of g.P.Keeps.holds c.args.digit c.args.stripe.now.entries c.args.row.entries c.in_ok-more.more.entries c.union_of_maps.ensures.value c.in_ok-more.ensures belongs c.requires.none

pub returns-clause-mine : goal.returns-clause-mine
returns-clause-mine g c =
    let belongs = subst (λ (d : ℕ). AllKeep g.K.Ord.cmp (Belongs g.K.PathKey.path_of g.P.Keeps.holds d) c.args.stripe.now.entries) c.requires.digit c.law.ensures.pairs in
    mine g.K.Ord.cmp g.K.PathKey.path_of g.P.Keeps.holds c.args.digit c.args.stripe.now.entries c.args.row.entries c.in_ok-more.more.entries c.union_of_maps.ensures.value c.in_ok-more.ensures belongs c.requires.none

pub returns-clause-before : goal.returns-clause-before
returns-clause-before g c =
    let belongs = subst (λ (d : ℕ). AllKeep g.K.Ord.cmp (Belongs g.K.PathKey.path_of g.P.Keeps.holds d) c.args.stripe.now.entries) c.requires.digit c.law.ensures.pairs in
    before g.K.Ord.cmp g.K.PathKey.path_of g.P.Keeps.holds c.args.digit c.args.stripe.now.entries c.args.row.entries c.in_ok-more.more.entries c.union_of_maps.ensures.value c.in_ok-more.ensures belongs c.requires.none

pub returns-clause-size : goal.returns-clause-size
returns-clause-size g c =
    omega (arith, c.requires.size, c.len.ensures.few, ap length c.in_ok-more.ensures, c.union_of_maps.ensures.size c.args.stripe.now.entries c.args.row.entries c.len-2.ensures.sorted)

pub returns-clause-kept : goal.returns-clause-kept
returns-clause-kept g c =
    let belongs = subst (λ (d : ℕ). AllKeep g.K.Ord.cmp (Belongs g.K.PathKey.path_of g.P.Keeps.holds d) c.args.stripe.now.entries) c.requires.digit c.law.ensures.pairs in
    kept_more g.K.Ord.cmp g.K.PathKey.path_of g.P.Keeps.holds c.args.digit c.args.stripe.now.entries c.args.row.entries c.in_ok-more.more.entries c.union_of_maps.ensures.value c.in_ok-more.ensures belongs c.requires.none c.requires.kept
