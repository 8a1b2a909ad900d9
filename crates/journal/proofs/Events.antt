-- An event that was filed, as the table and its journal show it.
use Rattle.std.proofs.Common.{◌≡◌, ℕ, true, List, [], ◌∷◌, ◌++◌, length, filter, subst, sym, ap, ◌∙◌}
use Rattle.std.specs.Prelude.{MatchResult, Result}
use Rattle.std.proofs.lemmas.List.{map-append, length-map}
use Rattle.boxcar.specs.Table.{Shelves, Where, Shows}
use Rattle.bulk_work.specs.Answers as plain
use Rattle.versions.specs.Map.{Map}
use Rattle.versions.specs.declared.refusal.Refusal.{Refusal}
use Rattle.handles.specs.Laws.{FreezesOpenJobs}
use Rattle.handles.specs.Machine.{Kind, State, Request, freeze, Outcome, Step}
use Rattle.handles.specs.Views.{frozen_outcome}
use Rattle.journal.specs.Answers.{answered}
use Rattle.journal.specs.Journals.{Entered, is_filed}
use Rattle.journal.specs.Tokens.{entry_at, entries_of}
use Rattle.journal.specs.Kept.{Standing, Files, AllOpen, WasOpenedBy, is_other, openers_after}
use Rattle.journal.specs.declared.frozen.Frozen.{Frozen}
use Rattle.journal.proofs.Beside.{frozen_still}

module _ {K V Q A I : Type 0} (kind : Kind K V Q A (plain.Summary K V I)) (t : Shelves) where
  -- one more event, as the table and its journal show it
  pub files_event : (s u : State K V Q) (ts ts' : List (Where (Entered K V Q (plain.Summary K V I)))) (a m : Where (Entered K V Q (plain.Summary K V I)))
      (seat : ℕ) (r : Request K V Q) (o : Outcome K V (plain.Summary K V I)) (at : ℕ) (old : Standing K V Q (plain.Summary K V I)) (os os' : Map ℕ ℕ)
      → record { state = s; journal = entries_of ts; openers = os } ≡ old → ts' ≡ ts ++ m ∷ [] → m ≡ a → Shows t a → entry_at a ≡ record { seat = seat; request = r; outcome = o }
      → at ≡ length ts → is_filed o ≡ true → Step kind s r o u → os' ≡ openers_after os r o a.index → Files kind t old seat r o a at (record { state = u; journal = entries_of ts'; openers = os' })
  files_event s u ts ts' a m seat r o at old os os' view is same shows entry place filed step openers =
      subst (λ (x : Standing K V Q (plain.Summary K V I)). Files kind t x seat r o a at (record { state = u; journal = entries_of ts'; openers = os' })) view record {
        shown = shows;
        entry = entry;
        place = place ∙ sym (length-map ts entry_at);
        journal = ap entries_of is ∙ map-append entry_at ts (m ∷ []) ∙ ap (λ w. entries_of ts ++ w.value ∷ []) same;
        openers = openers;
        step = step;
        filed = filed;
      }

module _ {K V Q A I : Type 0} (kind : Kind K V Q A (plain.Summary K V I)) (t : Shelves) where
  -- the tokens beside open jobs after a freeze, where they stood in an equal list
  pub frozen_after : (s u : State K V Q) (h seat : ℕ) (q : Q) (answer : Result (ℕ × Map K V) Refusal) (fs mid fs' : List (Frozen K V Q I)) (f : ℕ → Frozen K V Q I)
      → FreezesOpenJobs kind → ((n : ℕ) → (f n).number ≡ n) → ((n : ℕ) → Shows t (f n).token)
      → ((n : ℕ) → entry_at (f n).token ≡ record { seat = seat; request = freeze h q; outcome = answered frozen_outcome answer })
      → Step kind s (freeze h q) (answered frozen_outcome answer) u
      → MatchResult answer (λ x. fs' ≡ filter (is_other x.0) mid ++ f x.0 ∷ []) (λ _. fs' ≡ mid) → mid ≡ fs → AllOpen t s fs → AllOpen t u fs'
  frozen_after s u h seat q answer fs mid fs' f law number shows entry step is same all =
      frozen_still kind t s u h seat q answer mid fs' f law number shows entry step is (subst (AllOpen t s) (sym same) all)

-- the job was opened so in an equal state
pub opened_in : {K V Q B : Type 0} (s u : State K V Q) (n : ℕ) (e : Entered K V Q B) → WasOpenedBy s n e → s ≡ u → WasOpenedBy u n e
opened_in s u n e was same = subst (λ x. WasOpenedBy x n e) same was
