use Rattle.std.proofs.Common.{◌+◌, ◌≤◌, List, length, arith, sym, subst}
use Rattle.std.specs.List.Sorted.{IsPermutation}
use Rattle.std.proofs.lemmas.List.Sorted.{length_permutation}
use Rattle.map_view.proofs.Counting.{at_most_one}
use Rattle.bounded_map.proofs.bounded_map.BoundedMap.remove_all_failing.Goals as goal

pub loop-key-init : goal.loop-key-init
loop-key-init g c =
    let same : IsPermutation c.args.view.now c.into_iter-key-iterator.result = subst (IsPermutation c.args.view.now) (sym c.into_iter-key-iterator.ensures.into_iter_gives) c.bunched-key-items.ensures.once in
    record {
      next = tt;
      finite = tt;
      few = omega (arith, length_permutation _ _ same);
    }

pub loop-key-preserved : goal.loop-key-preserved
loop-key-preserved g c =
    let few = subst (λ (rest : List (g.row.K.Denot × g.row.V.Denot)). c.loop-key.removed + length rest ≤ length c.args.view.now) c.in-Some.ensures.steps c.loop-key.invariant.few in
    record {
      next = tt;
      finite = tt;
      few = omega (arith, few, at_most_one c.in_ok-gone.gone c.from-removed.result c.from-removed.ensures);
    }
