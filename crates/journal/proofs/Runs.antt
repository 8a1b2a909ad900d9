-- One more entry.
use Rattle.std.proofs.Common.{◌≡◌, ℕ, Bool, true, ◌&&◌, List, [], ◌∷◌, ◌++◌, refl, subst, sym, ap, ◌∙◌, arith, zero, suc}
use Rattle.std.specs.List.{list_all}
use Rattle.std.proofs.lemmas.List.{map-append}
use Rattle.std.proofs.lemmas.List.Elements.{All-append}
use Rattle.std.proofs.lemmas.List.Folds.{list_all-append}
use Rattle.boxcar.specs.Table.{Shelves, Where, Shows}
use Rattle.bulk_work.specs.Answers as plain
use Rattle.std.specs.Ordering.{nat_cmp}
use Rattle.versions.specs.Map.{value_at}
use Rattle.handles.specs.declared.limits.Limits.{Limits}
use Rattle.handles.specs.Machine.{Kind, State, Request, Outcome, Step, Run, nothing}
use Rattle.journal.specs.Journals.{Entered, IsLegal, is_filed, is_filed_in, request_in, outcome_in, requests_in, outcomes_in}
use Rattle.journal.specs.Tokens.{entry_at, entries_of, AllShown}
use Rattle.journal.specs.Kept.{IsKept, AllOpen, EachHasItsToken}
use Rattle.journal.specs.declared.frozen.Frozen.{Frozen}
use Rattle.journal.proofs.Limits.{limits_kept}

module _ {K V Q A B : Type 0} (kind : Kind K V Q A B) where
  -- a run goes on by one step
  run_more : (s t u : State K V Q) (rs : List (Request K V Q)) (os : List (Outcome K V B)) (r : Request K V Q) (o : Outcome K V B) → Run kind s rs os t → Step kind t r o u → Run kind s (rs ++ r ∷ []) (os ++ o ∷ []) u
  run_more s t u [] [] r o run step = (u, subst (λ x. Step kind x r o u) (sym run) step, refl)
  run_more s t u [] (p ∷ os) r o run step = absurd run
  run_more s t u (q ∷ rs) [] r o run step = absurd run
  run_more s t u (q ∷ rs) (p ∷ os) r o run step = (run.0, run.1, run_more run.0 t u rs os r o run.2 step)

  both_are : (a b : Bool) → a ≡ true → b ≡ true → (a && b) ≡ true
  both_are a b h k = cc

  -- a legal journal goes on by one entry
  pub legal_more : (limits : Limits) (s u : State K V Q) (es : List (Entered K V Q B)) (e : Entered K V Q B) → IsLegal kind limits es s → is_filed e.outcome ≡ true → Step kind s e.request e.outcome u → IsLegal kind limits (es ++ e ∷ []) u
  legal_more limits s u es e legal filed step = record {
    run = rw (map-append request_in es (e ∷ []), map-append outcome_in es (e ∷ [])) (run_more (nothing limits) s u (requests_in es) (outcomes_in es) e.request e.outcome legal.run step);
    filed = list_all-append is_filed_in es (e ∷ []) ∙ both_are (list_all is_filed_in es) (list_all is_filed_in (e ∷ [])) legal.filed (both_are (is_filed e.outcome) true filed refl);
  }

module _ {K V Q A I : Type 0} (kind : Kind K V Q A (plain.Summary K V I)) (t : Shelves) where
  one_shown : (a : Where (Entered K V Q (plain.Summary K V I))) → Shows t a → AllShown t (a ∷ [])
  one_shown a shows zero d h = shows
  one_shown a shows (suc k) d h = absurd (omega arith)

  -- what the lock keeps, after one more event
  pub kept_more : (s u : State K V Q) (ts ts' : List (Where (Entered K V Q (plain.Summary K V I)))) (fs fs' : List (Frozen K V Q I)) (a : Where (Entered K V Q (plain.Summary K V I)))
      (seat : ℕ) (r : Request K V Q) (o : Outcome K V (plain.Summary K V I))
      → ts' ≡ ts ++ a ∷ [] → IsKept kind t s ts fs → Shows t a → entry_at a ≡ record { seat = seat; request = r; outcome = o }
      → is_filed o ≡ true → Step kind s r o u → AllOpen t u fs' → EachHasItsToken u fs' → IsKept kind t u ts' fs'
  kept_more s u ts ts' fs fs' a seat r o is kept shows entry filed step beside each =
      let filed' : is_filed (entry_at a).outcome ≡ true = ap (λ e. is_filed e.outcome) entry ∙ filed in
      let step' : Step kind s (entry_at a).request (entry_at a).outcome u = subst (λ (e : Entered K V Q (plain.Summary K V I)). Step kind s e.request e.outcome u) (sym entry) step in
      let more : IsLegal kind s.limits (entries_of ts ++ entry_at a ∷ []) u = legal_more kind s.limits s u (entries_of ts) (entry_at a) kept.legal filed' step' in
      let together : IsLegal kind s.limits (entries_of (ts ++ a ∷ [])) u = subst (λ (es : List (Entered K V Q (plain.Summary K V I))). IsLegal kind s.limits es u) (sym (map-append entry_at ts (a ∷ []))) more in
      let legal' : IsLegal kind u.limits (entries_of (ts ++ a ∷ [])) u = subst (λ l. IsLegal kind l (entries_of (ts ++ a ∷ [])) u) (sym (limits_kept kind s u r o step)) together in
      subst (λ (x : List (Where (Entered K V Q (plain.Summary K V I)))). IsKept kind t u x fs') (sym is) record {
        shown = All-append (λ (b : Where (Entered K V Q (plain.Summary K V I))). Shows t b) ts (a ∷ []) kept.shown (one_shown a shows);
        legal = legal';
        beside = beside;
        each = each;
      }

module _ {K V Q I : Type 0} (t : Shelves) where
  -- where no job is opened or closed, open jobs stay open
  pub open_still : (s u : State K V Q) (fs : List (Frozen K V Q I)) → u.jobs ≡ s.jobs → AllOpen t s fs → AllOpen t u fs
  open_still s u [] jobs all = tt
  open_still s u (f ∷ fs) jobs all = (
    record { shown = all.0.shown; opener = record { job = all.0.opener.job; opened = all.0.opener.opened; stands = ap (λ js. value_at nat_cmp js f.number) jobs ∙ all.0.opener.stands } },
    open_still s u fs jobs all.1,
  )
