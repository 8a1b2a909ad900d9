use Rattle.std.proofs.Common.{◌≤◌, [], ◌∷◌, ◌++◌, Bool, true, false, cond, arith, sym, subst}
use Rattle.versions.specs.Map.{IsMap, ShareNoKey}
use Rattle.iter.specs.Intervals.{AreApart, lies_in, part, parts}
use Rattle.iter.specs.declared.interval.Interval.{Interval}
use Rattle.splitter.specs.Laws.{below, from}
use Rattle.splitter.specs.Portion.{Portion}
use Rattle.tests_bulk_ops.proofs.tests.pieces.two_of.Goals as goal

at_most_one : (b : Bool) → cond b 1 0 ≤ 1
at_most_one b = elim b as (λ b. cond b 1 0 ≤ 1) [ true ↦ omega arith | false ↦ omega arith ]

-- the two pieces are apart
pub returns : goal.returns
returns g c =
    let R = g.K.Ord.cmp in
    let path = g.K.PathKey.path_of in
    let laws = c.parts_follow_intervals.ensures in
    let p : Portion g.row.K.Denot g.row.V.Denot = c.whole.result in
    let l : Portion g.row.K.Denot g.row.V.Denot = c.cut_of-lower.result.0 in
    let u : Portion g.row.K.Denot g.row.V.Denot = c.cut_of-lower.result.1 in
    let i : Interval = below p.interval l.interval.hi in
    let j : Interval = from p.interval l.interval.hi in
    let is_cut = c.cut_of-lower.ensures in
    let divides = c.law_of_cuts.ensures.divide p.map p.interval 1 l.interval.hi is_cut.at in
    let apart : AreApart ((i ∷ []) ++ (j ∷ [])) = λ q. subst (λ n. n ≤ 1) (sym (divides.tile q)) (at_most_one (lies_in p.interval q)) in
    let sorted : IsMap R p.map = subst (λ (q : Portion g.row.K.Denot g.row.V.Denot). IsMap R q.map) (sym c.whole.ensures) c.len.ensures.sorted in
    let low : IsMap R (part path p.map i) = subst (IsMap R) (sym (laws.one p.map i)) (laws.map p.map (i ∷ []) sorted) in
    let high : IsMap R (part path p.map j) = subst (IsMap R) (sym (laws.one p.map j)) (laws.map p.map (j ∷ []) sorted) in
    let half : ShareNoKey R (part path p.map i) (parts path p.map (j ∷ [])) = subst (λ m. ShareNoKey R m (parts path p.map (j ∷ []))) (sym (laws.one p.map i)) (laws.apart p.map (i ∷ []) (j ∷ []) apart) in
    let share : ShareNoKey R (part path p.map i) (part path p.map j) = subst (ShareNoKey R (part path p.map i)) (sym (laws.one p.map j)) half in
    let share_low : ShareNoKey R (part path l.map l.interval) (part path p.map j) = subst (λ (q : Portion g.row.K.Denot g.row.V.Denot). ShareNoKey R (part path q.map q.interval) (part path p.map j)) (sym is_cut.lower) share in
    let first = part path l.map l.interval in
    record {
      left = subst (λ (q : Portion g.row.K.Denot g.row.V.Denot). IsMap R (part path q.map q.interval)) (sym is_cut.lower) low;
      right = subst (λ (q : Portion g.row.K.Denot g.row.V.Denot). IsMap R (part path q.map q.interval)) (sym is_cut.upper) high;
      apart = subst (λ (q : Portion g.row.K.Denot g.row.V.Denot). ShareNoKey R first (part path q.map q.interval)) (sym is_cut.upper) share_low;
      few = omega (arith, c.len-2.ensures, c.if-len-gt100.false, c.len-else-len-gt100.ensures, c.if-len-gt100-2.false);
    }
