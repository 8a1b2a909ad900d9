-- What a call adds to its seat.
use Rattle.std.proofs.Common.{◌≡◌, ℕ, ◌+◌, Bool, true, List, [], ◌∷◌, ◌++◌, Option, sym, ap, ◌∙◌, ◌⊎◌, inl, inr, refl, subst}
use Rattle.std.specs.Prelude.{Some, is_some}
use Rattle.std.proofs.lemmas.List.{map-append}
use Rattle.std.proofs.lemmas.List.Elements.{All-push}
use Rattle.boxcar.specs.Table.{Shelves, Shows}
use Rattle.bulk_work.specs.Answers as plain
use Rattle.versions.specs.declared.refusal.Refusal.{Refusal}
use Rattle.versions.specs.declared.refusal.Refusal.TheVariants.{NoHandle, Taken, Full, NoJob, Unfinished, NoWorker, TooManyJobs, JournalFull, NoMemory, BadNumber}
use Rattle.handles.specs.Machine.{Kind, State, Request, job_of, Outcome, made, replied, viewed, frozen, finished, unfinished, refused, worked}
use Rattle.journal.specs.Answers.{IsUnfiled}
use Rattle.journal.specs.Journals.{is_filed}
use Rattle.journal.specs.Tokens.{entry_at}
use Rattle.journal.specs.Kept.{Standing, Files}
use Rattle.locked_map.specs.Seats.{AllOf, Seated, Placed, placed, placed_all, with_entry, marked_by, marked_unknown, Adds}
use Rattle.filed_entries.specs.declared.filed.Filed.{Filed}
use Rattle.locked_map.proofs.Dues.{full_needs_room, step_has_worker, unknown_names_job}

module _ {K V Q B : Type 0} where
  -- an entry that is filed is what a call adds
  pub filed_adds : (s t : Seated K V Q B) (r : Request K V Q) (o : Outcome K V B) (place : ℕ) → (o ≡ refused NoWorker → ⊥) → is_filed o ≡ true → t ≡ with_entry s r o place → Adds s r o t
  filed_adds s t r made place other filed is = (place, is)
  filed_adds s t r (replied y) place other filed is = (place, is)
  filed_adds s t r (viewed m) place other filed is = (place, is)
  filed_adds s t r (frozen j m) place other filed is = (place, is)
  filed_adds s t r (finished b) place other filed is = (place, is)
  filed_adds s t r unfinished place other filed is = cc
  filed_adds s t r worked place other filed is = cc
  filed_adds s t r (refused NoHandle) place other filed is = (place, is)
  filed_adds s t r (refused Taken) place other filed is = (place, is)
  filed_adds s t r (refused Full) place other filed is = (place, is)
  filed_adds s t r (refused NoJob) place other filed is = cc
  filed_adds s t r (refused Unfinished) place other filed is = cc
  filed_adds s t r (refused NoWorker) place other filed is = absurd (other refl)
  filed_adds s t r (refused TooManyJobs) place other filed is = (place, is)
  filed_adds s t r (refused JournalFull) place other filed is = cc
  filed_adds s t r (refused NoMemory) place other filed is = cc
  filed_adds s t r (refused BadNumber) place other filed is = (place, is)

  -- a refusal that is no entry marks the seat
  pub unfiled_adds : {A : Type 0} (kind : Kind K V Q A B) (x : State K V Q) (s t : Seated K V Q B) (r : Request K V Q) (e : Refusal) (j : Option ℕ) → job_of r ≡ j → IsUnfiled kind x r e → t ≡ marked_by s e j → Adds s r (refused e) t
  unfiled_adds kind x s t r NoHandle j job due is = absurd due
  unfiled_adds kind x s t r Taken j job due is = absurd due
  unfiled_adds kind x s t r Full j job due is = absurd due
  unfiled_adds kind x s t r NoJob j job due is = (unknown_names_job kind x r due, is ∙ ap (marked_unknown s) (sym job))
  unfiled_adds kind x s t r Unfinished j job due is = absurd due
  unfiled_adds kind x s t r NoWorker j job due is = absurd due
  unfiled_adds kind x s t r TooManyJobs j job due is = absurd due
  unfiled_adds kind x s t r JournalFull j job due is = (full_needs_room kind x r due, is)
  unfiled_adds kind x s t r NoMemory j job due is = is
  unfiled_adds kind x s t r BadNumber j job due is = absurd due

module _ {K V Q B : Type 0} where
  -- the same of the end of a job, which is refused as NoJob or because memory ran out
  pub ended_adds : (s t : Seated K V Q B) (r : Request K V Q) (e : Refusal) (j : ℕ) → job_of r ≡ Some j → (e ≡ NoJob) ⊎ (e ≡ NoMemory) → t ≡ marked_by s e (Some j) → Adds s r (refused e) t
  ended_adds s t r e j job (inl unknown) is = subst (λ x. t ≡ marked_by s x (Some j) → Adds s r (refused x) t) (sym unknown) (λ same. (ap is_some job, same ∙ ap (marked_unknown s) (sym job))) is
  ended_adds s t r e j job (inr wanting) is = subst (λ x. t ≡ marked_by s x (Some j) → Adds s r (refused x) t) (sym wanting) (λ same. same) is

module _ {K V Q I : Type 0} where
  -- one token more of the vector
  pub all_of_more : (t : Shelves) (fs fs' : List (Filed K V Q I)) (f : Filed K V Q I) → fs' ≡ fs ++ f ∷ [] → AllOf t fs → Shows t f.token → AllOf t fs'
  all_of_more t fs fs' f is all shows = subst (AllOf t) (sym is) (All-push (λ (x : Filed K V Q I). Shows t x.token) fs f all shows)

  -- a seat with one entry more, as its parts show it
  pub seat_with_entry : (n floor : ℕ) (full : Bool) (unknown : Option ℕ) (fs fs' : List (Filed K V Q I)) (f : Filed K V Q I) (r : Request K V Q) (o : Outcome K V (plain.Summary K V I))
      → fs' ≡ fs ++ f ∷ [] → f.floor ≡ floor → entry_at f.token ≡ record { seat = n; request = r; outcome = o }
      → (let new : Seated K V Q (plain.Summary K V I) = record { number = n; floor = f.place + 1; list = placed_all fs'; full = full; unknown = unknown } in
      new ≡ with_entry (record { number = n; floor = floor; list = placed_all fs; full = full; unknown = unknown }) r o f.place)
  seat_with_entry n floor full unknown fs fs' f r o is beside entry =
      let seated : List (Placed K V Q (plain.Summary K V I)) → Seated K V Q (plain.Summary K V I) = λ l. record { number = n; floor = f.place + 1; list = l; full = full; unknown = unknown } in
      ap seated (ap placed_all is ∙ map-append placed fs (f ∷ [])
      ∙ ap (λ x. placed_all fs ++ record { place = f.place; floor = x; entry = entry_at f.token } ∷ []) beside
      ∙ ap (λ e. placed_all fs ++ record { place = f.place; floor = floor; entry = e } ∷ []) entry)

module _ {K V Q A I : Type 0} (kind : Kind K V Q A (plain.Summary K V I)) (t : Shelves) where
  -- an event that was filed under the lock is what its call adds to the seat
  pub event_adds : (x y : Standing K V Q (plain.Summary K V I)) (caller n floor next : ℕ) (full : Bool) (unknown : Option ℕ) (fs fs' : List (Filed K V Q I)) (f : Filed K V Q I) (r : Request K V Q) (o told : Outcome K V (plain.Summary K V I)) (old : Seated K V Q (plain.Summary K V I))
      → record { number = n; floor = floor; list = placed_all fs; full = full; unknown = unknown } ≡ old → fs' ≡ fs ++ f ∷ [] → f.floor ≡ floor → next ≡ f.place + 1
      → caller ≡ n → Files kind t x caller r o f.token f.place y → told ≡ o → Adds old r told (record { number = n; floor = next; list = placed_all fs'; full = full; unknown = unknown })
  event_adds x y caller n floor next full unknown fs fs' f r o told old view is beside behind same files is_told =
      let at : ℕ → Seated K V Q (plain.Summary K V I) = λ k. record { number = n; floor = k; list = placed_all fs'; full = full; unknown = unknown } in
      let was : Seated K V Q (plain.Summary K V I) = record { number = n; floor = floor; list = placed_all fs; full = full; unknown = unknown } in
      subst (λ (s : Seated K V Q (plain.Summary K V I)). Adds s r told (at next)) view
      (subst (λ p. Adds was r p (at next)) (sym is_told) (filed_adds was (at next) r o f.place (step_has_worker kind x.state y.state r o files.step) files.filed (ap at behind ∙ seat_with_entry n floor full unknown fs fs' f r o is beside (files.entry ∙ ap (λ k. record { seat = k; request = r; outcome = o }) same))))
