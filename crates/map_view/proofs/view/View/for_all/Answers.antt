use Rattle.std.proofs.Common.{◌≡◌, List, sym, ◌∙◌, subst}
use Rattle.std.specs.List.{list_all}
use Rattle.std.specs.List.Sorted.{IsPermutation}
use Rattle.bulk_work.specs.Answers.{passes}
use Rattle.map_view.proofs.Counting.{all_false, all_permuted, all_true}
use Rattle.map_view.proofs.view.View.for_all.Goals as goal

pub loop-key-init : goal.loop-key-init
loop-key-init g c =
    let same : IsPermutation c.args.self.now c.into_iter-key-iterator.result = subst (IsPermutation c.args.self.now) (sym c.into_iter-key-iterator.ensures.into_iter_gives) c.bunched-key-items.ensures.once in
    record { next = tt; finite = tt; callable = c.requires.callable; all = λ p means. sym (all_permuted p _ _ same) }

pub returns-then-not-answer_in : goal.returns-then-not-answer_in
returns-then-not-answer_in g c p means =
    let pair : g.row.K.Denot × g.row.V.Denot = (g.S.KeySlots.key_of c.in-Some.key.now, g.S.ValueSlots.value_of c.in-Some.value.now) in
    let before = subst (λ (rest : List (g.row.K.Denot × g.row.V.Denot)). list_all (passes p) rest ≡ list_all (passes p) c.args.self.now) c.in-Some.ensures.steps (c.loop-key.invariant.all p means) in
    sym (all_false p pair c.next.new.self c.answer_in.result (means _ _ _ c.answer_in.ensures) c.if-not-answer_in.true) ∙ before

pub loop-key-preserved : goal.loop-key-preserved
loop-key-preserved g c =
    let pair : g.row.K.Denot × g.row.V.Denot = (g.S.KeySlots.key_of c.in-Some.key.now, g.S.ValueSlots.value_of c.in-Some.value.now) in
    record {
      next = tt;
      finite = tt;
      callable = c.requires.callable;
      all = λ p means.
          let before = subst (λ (rest : List (g.row.K.Denot × g.row.V.Denot)). list_all (passes p) rest ≡ list_all (passes p) c.args.self.now) c.in-Some.ensures.steps (c.loop-key.invariant.all p means) in
          sym (all_true p pair c.next.new.self c.answer_in.result (means _ _ _ c.answer_in.ensures) c.if-not-answer_in.false) ∙ before;
    }
