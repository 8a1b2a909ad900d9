use Rattle.std.proofs.Common.{◌≡◌, ◌+◌, ◌≤◌, List, length, arith, sym, subst}
use Rattle.std.specs.List.Sorted.{IsPermutation}
use Rattle.std.proofs.lemmas.List.Sorted.{length_permutation}
use Rattle.bulk_work.specs.Answers.{passing}
use Rattle.map_view.proofs.Counting.{at_most_one, count_permuted, count_step}
use Rattle.map_view.proofs.view.View.count.Goals as goal

pub loop-key-init : goal.loop-key-init
loop-key-init g c =
    let same : IsPermutation c.args.self.now c.into_iter-key-iterator.result = subst (IsPermutation c.args.self.now) (sym c.into_iter-key-iterator.ensures.into_iter_gives) c.bunched-key-items.ensures.once in
    record {
      next = tt;
      finite = tt;
      callable = c.requires.callable;
      few = omega (arith, length_permutation _ _ same);
      count = λ p means. omega (arith, count_permuted p _ _ same);
    }

pub loop-key-preserved : goal.loop-key-preserved
loop-key-preserved g c =
    let pair : g.row.K.Denot × g.row.V.Denot = (g.S.KeySlots.key_of c.in-Some.key.now, g.S.ValueSlots.value_of c.in-Some.value.now) in
    let few = subst (λ (rest : List (g.row.K.Denot × g.row.V.Denot)). c.loop-key.count + length rest ≤ length c.args.self.now) c.in-Some.ensures.steps c.loop-key.invariant.few in
    record {
      next = tt;
      finite = tt;
      callable = c.requires.callable;
      few = omega (arith, few, at_most_one c.answer_in.result c.from-count.result c.from-count.ensures);
      count = λ p means.
          let before = subst (λ (rest : List (g.row.K.Denot × g.row.V.Denot)). c.loop-key.count + length (passing p rest) ≡ length (passing p c.args.self.now)) c.in-Some.ensures.steps (c.loop-key.invariant.count p means) in
          count_step p pair c.next.new.self c.loop-key.count c.from-count.result _ c.answer_in.result before c.from-count.ensures (means _ _ _ c.answer_in.ensures);
    }
