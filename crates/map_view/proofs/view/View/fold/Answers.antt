use Rattle.std.proofs.Common.{◌≡◌, List, sym, ap, ◌∙◌, subst}
use Rattle.std.specs.List.Sorted.{IsPermutation}
use Rattle.bulk_work.specs.Answers.{items_of}
use Rattle.combiner.specs.Monoids.{folded}
use Rattle.map_view.proofs.Counting.{fold_step}
use Rattle.map_view.proofs.view.View.fold.Goals as goal

pub loop-key-init : goal.loop-key-init
loop-key-init g c =
    let same : IsPermutation c.args.self.now c.into_iter-key-iterator.result = subst (IsPermutation c.args.self.now) (sym c.into_iter-key-iterator.ensures.into_iter_gives) c.bunched-key-items.ensures.once in
    record {
      next = tt;
      finite = tt;
      callable = c.requires.callable;
      all = λ i means.
          ap (λ unit. folded (g.M.Monoid.combine c.args.monoid.now) unit (items_of i c.into_iter-key-iterator.result)) c.unit-all.ensures
          ∙ c.law_of_folds.ensures c.args.monoid.now i c.args.self.now c.into_iter-key-iterator.result same;
    }

pub loop-key-preserved : goal.loop-key-preserved
loop-key-preserved g c =
    let pair : g.row.K.Denot × g.row.V.Denot = (g.S.KeySlots.key_of c.in-Some.key.now, g.S.ValueSlots.value_of c.in-Some.value.now) in
    let combine = g.M.Monoid.combine c.args.monoid.now in
    record {
      next = tt;
      finite = tt;
      callable = c.requires.callable;
      all = λ i means.
          let before = subst (λ (rest : List (g.row.K.Denot × g.row.V.Denot)). folded combine c.loop-key.all (items_of i rest) ≡ folded combine (g.M.Monoid.unit_of c.args.monoid.now) (items_of i c.args.self.now)) c.in-Some.ensures.steps (c.loop-key.invariant.all i means) in
          ap (λ all. folded combine all (items_of i c.next.new.self)) (c.op-all.ensures.combined ∙ ap (λ item. combine item c.loop-key.all) (means _ _ _ c.answer_in.ensures))
          ∙ fold_step combine (g.met.M.Monoid.associative c.args.monoid.now) (g.met.M.Monoid.commutative c.args.monoid.now) (i pair.0 pair.1) c.loop-key.all (items_of i c.next.new.self)
          ∙ before;
    }
