use Rattle.std.proofs.Common.{◌≡◌, List, sym, ◌∙◌, subst}
use Rattle.std.specs.List.{list_any}
use Rattle.std.specs.List.Sorted.{IsPermutation}
use Rattle.std.proofs.lemmas.List.Sorted.{list_any-IsPermutation}
use Rattle.bulk_work.specs.Answers.{passes}
use Rattle.map_view.proofs.Counting.{any_false, any_true}
use Rattle.map_view.proofs.view.View.exists.Goals as goal

pub loop-key-init : goal.loop-key-init
loop-key-init g c =
    let same : IsPermutation c.args.self.now c.into_iter-key-iterator.result = subst (IsPermutation c.args.self.now) (sym c.into_iter-key-iterator.ensures.into_iter_gives) c.bunched-key-items.ensures.once in
    record { next = tt; finite = tt; callable = c.requires.callable; some = λ p means. sym (list_any-IsPermutation (passes p) _ _ same) }

pub returns-then-answer_in : goal.returns-then-answer_in
returns-then-answer_in g c p means =
    let pair : g.row.K.Denot × g.row.V.Denot = (g.S.KeySlots.key_of c.in-Some.key.now, g.S.ValueSlots.value_of c.in-Some.value.now) in
    let before = subst (λ (rest : List (g.row.K.Denot × g.row.V.Denot)). list_any (passes p) rest ≡ list_any (passes p) c.args.self.now) c.in-Some.ensures.steps (c.loop-key.invariant.some p means) in
    sym (any_true p pair c.next.new.self c.answer_in.result (means _ _ _ c.answer_in.ensures) c.if-answer_in.true) ∙ before

pub loop-key-preserved : goal.loop-key-preserved
loop-key-preserved g c =
    let pair : g.row.K.Denot × g.row.V.Denot = (g.S.KeySlots.key_of c.in-Some.key.now, g.S.ValueSlots.value_of c.in-Some.value.now) in
    record {
      next = tt;
      finite = tt;
      callable = c.requires.callable;
      some = λ p means.
          let before = subst (λ (rest : List (g.row.K.Denot × g.row.V.Denot)). list_any (passes p) rest ≡ list_any (passes p) c.args.self.now) c.in-Some.ensures.steps (c.loop-key.invariant.some p means) in
          sym (any_false p pair c.next.new.self c.answer_in.result (means _ _ _ c.answer_in.ensures) c.if-answer_in.false) ∙ before;
    }
