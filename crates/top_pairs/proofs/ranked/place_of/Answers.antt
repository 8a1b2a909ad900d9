use Rattle.std.proofs.Common.{◌≡◌, ◌≢◌, ◌+◌, ◌-◌, ◌<◌, ◌/◌, length, suc, take, ap, sym, subst, ◌∙◌, arith}
use Rattle.std.specs.List.{AllByRecursion}
use Rattle.std.specs.declared.cmp.Ordering.TheVariants.{Less}
use Rattle.top_pairs.specs.Ranks.{AtLeast}
use Rattle.top_pairs.proofs.Places.{at_least_up_to, below_from, less_by, not_less_by}
use Rattle.top_pairs.proofs.ranked.place_of.Goals as goal

pub loop-low-preserved-then-is_lt : goal.loop-low-preserved-then-is_lt
loop-low-preserved-then-is_lt g c =
    let at = c.index-items-middle.result in
    let R = g.N.Ord.cmp in
    let s = c.args.score.now in
    let middle = c.loop-low.low + (c.loop-low.high - c.loop-low.low) / 2 in
    let inside : middle < length c.args.items.now = omega (arith, c.loop-low.invariant.bound, c.loop-low-test.true) in
    let less : R at.score s ≡ Less = ap (λ t. R t s) (sym c.score.ensures) ∙ (sym c.cmp.ensures ∙ less_by c.cmp.result (sym c.is_lt.ensures ∙ c.if-is_lt.true)) in
    record {
      ordered = omega (arith, c.loop-low-test.true);
      bound = omega (arith, inside);
      before = c.loop-low.invariant.before;
      behind = below_from R g.met.N.Ord.total s middle c.args.items.now at inside (subst (λ x. R x.score s ≡ Less) c.index-items-middle.is less);
    }

pub loop-low-preserved : goal.loop-low-preserved
loop-low-preserved g c =
    let at = c.index-items-middle.result in
    let R = g.N.Ord.cmp in
    let s = c.args.score.now in
    let middle = c.loop-low.low + (c.loop-low.high - c.loop-low.low) / 2 in
    let inside : middle < length c.args.items.now = omega (arith, c.loop-low.invariant.bound, c.loop-low-test.true) in
    let not : R at.score s ≢ Less = subst (λ t. t ≢ Less) (c.cmp.ensures ∙ ap (λ t. R t s) c.score.ensures) (not_less_by c.cmp.result (sym c.is_lt.ensures ∙ c.if-is_lt.false)) in
    let next : middle + 1 ≡ suc middle = omega arith in
    record {
      ordered = omega (arith, c.loop-low-test.true);
      bound = c.loop-low.invariant.bound;
      before = λ falls. subst (λ n. AllByRecursion (AtLeast R s) (take n c.args.items.now)) (sym next)
          (at_least_up_to R g.met.N.Ord.total s middle c.args.items.now at inside (subst (λ x. R x.score s ≢ Less) c.index-items-middle.is not) falls);
      behind = c.loop-low.invariant.behind;
    }
