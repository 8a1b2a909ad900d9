-- To which requests the refusals are due that make no entry.
use Rattle.std.proofs.Common.{◌≡◌, ℕ, Bool, true, false, ◌&&◌, List, [], ◌∷◌, nat_lt, Option, Some, None, refl, sym, subst, ap, ◌∙◌}
use Rattle.std.specs.Prelude.{IsSome, if◌then◌else◌}
use Rattle.versions.specs.declared.refusal.Refusal.{Refusal}
use Rattle.versions.specs.declared.refusal.Refusal.TheVariants.{NoHandle, NoJob, NoWorker, JournalFull, BadNumber}
use Rattle.handles.specs.Machine.{Kind, State, Request, job_of, needs_room, Outcome, refused, conditions, first_of, refusal, room, is_unknown_job, Step}

abbrev is_no_worker : Refusal → Bool
is_no_worker NoWorker = true
is_no_worker e = false

abbrev is_no_job : Refusal → Bool
is_no_job NoJob = true
is_no_job e = false

abbrev is_journal_full : Refusal → Bool
is_journal_full JournalFull = true
is_journal_full e = false

-- whether there is a refusal that passes the test
abbrev tells : (Refusal → Bool) → Option Refusal → Bool
tells p None = false
tells p (Some e) = p e

-- no refusal of the conditions passes the test
abbrev NonePass : (Refusal → Bool) → List (Bool × Refusal) → Type 0
NonePass p [] = Unit {0}
NonePass p (c ∷ cs) = (p c.1 ≡ false) × NonePass p cs

passed_over : (p : Refusal → Bool) (b : Bool) (e : Refusal) (rest : Option Refusal) → p e ≡ false → tells p rest ≡ false → tells p (if b then Some e else rest) ≡ false
passed_over p true e rest here later = here
passed_over p false e rest here later = later

none_told : (p : Refusal → Bool) (cs : List (Bool × Refusal)) → NonePass p cs → tells p (first_of cs) ≡ false
none_told p [] none = refl
none_told p (c ∷ cs) none = passed_over p c.0 c.1 (first_of cs) none.0 (none_told p cs none.1)

-- a refusal that passes the test is not returned where none passes
not_told : (p : Refusal → Bool) (e : Refusal) (o : Option Refusal) → p e ≡ true → tells p o ≡ false → o ≡ Some e → ⊥
not_told p e o passes none is = let both : true ≡ false = sym passes ∙ sym (ap (tells p) is) ∙ none in cc

-- what may be due first to no condition but the first, or the fourth
first_due : (b : Bool) (rest : List (Bool × Refusal)) → NonePass is_journal_full rest → first_of ((b, JournalFull) ∷ rest) ≡ Some JournalFull → b ≡ true
first_due true rest none is = refl
first_due false rest none is = absurd (not_told is_journal_full JournalFull (first_of rest) refl (none_told is_journal_full rest none) is)

fourth_due : (a b c d : Bool) (rest : List (Bool × Refusal)) → NonePass is_no_job rest → first_of ((a, JournalFull) ∷ (b, BadNumber) ∷ (c, NoHandle) ∷ (d, NoJob) ∷ rest) ≡ Some NoJob → d ≡ true
fourth_due a b c true rest none is = refl
fourth_due a b c false rest none is =
    let over = passed_over is_no_job c NoHandle (first_of rest) refl (none_told is_no_job rest none) in
    let none_due = passed_over is_no_job a JournalFull _ refl (passed_over is_no_job b BadNumber _ refl over) in
    absurd (not_told is_no_job NoJob _ refl none_due is)

both_hold : (a b : Bool) → (a && b) ≡ true → a ≡ true
both_hold true b is = refl
both_hold false b is = cc

-- the conditions but the first, and but the first four
abbrev but_first : List (Bool × Refusal) → List (Bool × Refusal)
but_first [] = []
but_first (c ∷ cs) = cs

abbrev but_four : List (Bool × Refusal) → List (Bool × Refusal)
but_four cs = but_first (but_first (but_first (but_first cs)))

module _ {K V Q : Type 0} where
  names_some : (s : State K V Q) (o : Option ℕ) → is_unknown_job s o ≡ true → IsSome o
  names_some s (Some j) is = refl
  names_some s None is = cc

module _ {K V Q A B : Type 0} (kind : Kind K V Q A B) where
  -- where the journal is full for a request, it needs room
  pub full_needs_room : (s : State K V Q) (r : Request K V Q) → refusal kind s r ≡ Some JournalFull → needs_room r ≡ true
  full_needs_room s r is =
      both_hold (needs_room r) (nat_lt (room s) 2)
      (first_due (needs_room r && nat_lt (room s) 2) (but_first (conditions kind s r)) (refl, (refl, (refl, (refl, (refl, (refl, tt)))))) is)

  -- where a job is unknown, the request names one
  pub unknown_names_job : (s : State K V Q) (r : Request K V Q) → refusal kind s r ≡ Some NoJob → IsSome (job_of r)
  unknown_names_job s r is = names_some s (job_of r) (fourth_due _ _ _ (is_unknown_job s (job_of r)) (but_four (conditions kind s r)) (refl, (refl, (refl, tt))) is)

  -- no step is refused as of no worker
  pub step_has_worker : (s t : State K V Q) (r : Request K V Q) (o : Outcome K V B) → Step kind s r o t → o ≡ refused NoWorker → ⊥
  step_has_worker s t r o step is =
      let due = subst (λ (p : Outcome K V B). Step kind s r p t) is step in
      not_told is_no_worker NoWorker (refusal kind s r) refl (none_told is_no_worker (conditions kind s r) (refl, (refl, (refl, (refl, (refl, (refl, (refl, tt)))))))) due.0
