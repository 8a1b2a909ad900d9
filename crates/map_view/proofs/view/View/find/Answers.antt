use Rattle.std.proofs.Common.{◌≡◌, [], ◌∷◌, List, arith, refl, sym, ◌∙◌, subst}
use Rattle.std.specs.List.{list_any}
use Rattle.std.specs.List.Sorted.{IsPermutation}
use Rattle.std.specs.Prelude.{All, Contains, Some}
use Rattle.std.proofs.lemmas.List.Elements.{All-head, All-tail, Contains-append_right}
use Rattle.std.proofs.lemmas.List.Sorted.{Contains-permutation, IsPermutation-sym, list_any-IsPermutation}
use Rattle.bulk_work.specs.Answers.{passes}
use Rattle.map_view.specs.Questions.{IsFound}
use Rattle.map_view.proofs.Counting.{any_false}
use Rattle.map_view.proofs.view.View.find.Goals as goal

pub loop-key-init : goal.loop-key-init
loop-key-init g c =
    let same : IsPermutation c.args.self.now c.into_iter-key-iterator.result = subst (IsPermutation c.args.self.now) (sym c.into_iter-key-iterator.ensures.into_iter_gives) c.bunched-key-items.ensures.once in
    record {
      next = tt;
      finite = tt;
      callable = c.requires.callable;
      some = λ p means. sym (list_any-IsPermutation (passes p) _ _ same);
      kept = subst (All (λ (x : g.row.K.Denot × g.row.V.Denot). g.P.Keeps.holds x.0 x.1)) (sym c.into_iter-key-iterator.ensures.into_iter_gives) c.bunched-key-items.ensures.kept;
      there = λ x. Contains-permutation _ _ x (IsPermutation-sym _ _ same);
    }

pub returns-then-answer_in-clause-found : goal.returns-then-answer_in-clause-found
returns-then-answer_in-clause-found g c p means =
    let pair : g.row.K.Denot × g.row.V.Denot = (g.S.KeySlots.key_of c.in-Some.key.now, g.S.ValueSlots.value_of c.in-Some.value.now) in
    let among : Contains c.args.self.now pair = c.loop-key.invariant.there pair (subst (λ (rest : List (g.row.K.Denot × g.row.V.Denot)). Contains rest pair) (sym c.in-Some.ensures.steps) (0, omega arith, refl)) in
    subst (λ (x : g.row.K.Denot × g.row.V.Denot). IsFound p c.args.self.now (Some x)) (sym c.in_ok-shared_pair.ensures) (among, sym (means _ _ _ c.answer_in.ensures) ∙ c.if-answer_in.true)

pub returns-then-answer_in-clause-kept : goal.returns-then-answer_in-clause-kept
returns-then-answer_in-clause-kept g c =
    let pair : g.row.K.Denot × g.row.V.Denot = (g.S.KeySlots.key_of c.in-Some.key.now, g.S.ValueSlots.value_of c.in-Some.value.now) in
    let kept = subst (All (λ (x : g.row.K.Denot × g.row.V.Denot). g.P.Keeps.holds x.0 x.1)) c.in-Some.ensures.steps c.loop-key.invariant.kept in
    subst (λ (x : g.row.K.Denot × g.row.V.Denot). g.P.Keeps.holds x.0 x.1) (sym c.in_ok-shared_pair.ensures) (All-head (λ (x : g.row.K.Denot × g.row.V.Denot). g.P.Keeps.holds x.0 x.1) pair c.next.new.self kept)

pub loop-key-preserved : goal.loop-key-preserved
loop-key-preserved g c =
    let pair : g.row.K.Denot × g.row.V.Denot = (g.S.KeySlots.key_of c.in-Some.key.now, g.S.ValueSlots.value_of c.in-Some.value.now) in
    record {
      next = tt;
      finite = tt;
      callable = c.requires.callable;
      some = λ p means.
          let before = subst (λ (rest : List (g.row.K.Denot × g.row.V.Denot)). list_any (passes p) rest ≡ list_any (passes p) c.args.self.now) c.in-Some.ensures.steps (c.loop-key.invariant.some p means) in
          sym (any_false p pair c.next.new.self c.answer_in.result (means _ _ _ c.answer_in.ensures) c.if-answer_in.false) ∙ before;
      kept = All-tail (λ (x : g.row.K.Denot × g.row.V.Denot). g.P.Keeps.holds x.0 x.1) pair c.next.new.self (subst (All (λ (x : g.row.K.Denot × g.row.V.Denot). g.P.Keeps.holds x.0 x.1)) c.in-Some.ensures.steps c.loop-key.invariant.kept);
      there = λ x among. c.loop-key.invariant.there x (subst (λ (rest : List (g.row.K.Denot × g.row.V.Denot)). Contains rest x) (sym c.in-Some.ensures.steps) (Contains-append_right (pair ∷ []) c.next.new.self x among));
    }
