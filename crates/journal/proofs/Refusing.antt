-- What may be the first refusal that is due.
use Rattle.std.proofs.Common.{◌≡◌, ◌<◌, ℕ, Bool, true, false, List, [], ◌∷◌, nat_lt, Option, Some, None, refl, sym, subst, ap, ◌∙◌, arith}
use Rattle.std.proofs.lemmas.Bool.Decides.{nat_tests}
use Rattle.versions.specs.declared.refusal.Refusal.{Refusal}
use Rattle.versions.specs.declared.refusal.Refusal.TheVariants.{NoJob, Unfinished, JournalFull}
use Rattle.std.specs.Prelude.{Result, Err, if◌then◌else◌}
use Rattle.handles.specs.Views.{Foresees, unit_outcome}
use Rattle.handles.specs.Machine.{Kind, State, Job, Request, drop_handle, finish, abandon, conditions, first_of, refusal, room, job_at}

abbrev is_unfinished : Refusal → Bool
is_unfinished Unfinished = true
is_unfinished e = false

abbrev is_journal_full : Refusal → Bool
is_journal_full JournalFull = true
is_journal_full e = false

-- whether there is a refusal that passes the test
abbrev tells : (Refusal → Bool) → Option Refusal → Bool
tells p None = false
tells p (Some e) = p e

-- no refusal of the conditions passes the test
abbrev NonePass : (Refusal → Bool) → List (Bool × Refusal) → Type 0
NonePass p [] = Unit {0}
NonePass p (c ∷ cs) = (p c.1 ≡ false) × NonePass p cs

passed_over : (p : Refusal → Bool) (b : Bool) (e : Refusal) (rest : Option Refusal) → p e ≡ false → tells p rest ≡ false → tells p (if b then Some e else rest) ≡ false
passed_over p true e rest here later = here
passed_over p false e rest here later = later

none_told : (p : Refusal → Bool) (cs : List (Bool × Refusal)) → NonePass p cs → tells p (first_of cs) ≡ false
none_told p [] none = refl
none_told p (c ∷ cs) none = passed_over p c.0 c.1 (first_of cs) none.0 (none_told p cs none.1)

told_first : (b : Bool) (cs : List (Bool × Refusal)) → NonePass is_journal_full cs → first_of ((b, JournalFull) ∷ cs) ≡ Some JournalFull → b ≡ true
told_first true cs none is = refl
told_first false cs none is = let both : true ≡ false = sym (ap (tells is_journal_full) is) ∙ none_told is_journal_full cs none in cc

-- the conditions but the first
abbrev but_first : List (Bool × Refusal) → List (Bool × Refusal)
but_first [] = []
but_first (c ∷ cs) = cs

pub both_ways : {X : Type 0} (e : Refusal) (o : Option Refusal) → o ≡ Some e → o ≡ None → X
both_ways e o some none = let p : Some e ≡ None = sym some ∙ none in cc

module _ {K V Q A B : Type 0} (kind : Kind K V Q A B) where
  -- no call is refused as unfinished
  pub never_unfinished : (s : State K V Q) (r : Request K V Q) → refusal kind s r ≡ Some Unfinished → ⊥
  never_unfinished s r is =
      let no : tells is_unfinished (refusal kind s r) ≡ false = none_told is_unfinished (conditions kind s r) (refl, (refl, (refl, (refl, (refl, (refl, (refl, tt))))))) in
      let both : true ≡ false = sym (ap (tells is_unfinished) is) ∙ no in cc

  -- where the journal is full for a call, there is no room
  pub full_has_no_room : (s : State K V Q) (h : ℕ) → refusal kind s (drop_handle h) ≡ Some JournalFull → room s < 2
  full_has_no_room s h is =
      let b : nat_lt (room s) 2 ≡ true = told_first (nat_lt (room s) 2) (but_first (conditions kind s (drop_handle h))) (refl, (refl, (refl, (refl, (refl, (refl, tt)))))) is in
      grind (arith, nat_tests)

  -- an open job may be closed
  pub open_has_no_refusal : (s : State K V Q) (j : ℕ) (x : Job K V Q) → job_at s j ≡ Some x → refusal kind s (abandon j) ≡ None
  open_has_no_refusal s j x is = rw is refl

  pub open_may_finish : (s : State K V Q) (j : ℕ) (x : Job K V Q) → job_at s j ≡ Some x → refusal kind s (finish j) ≡ None
  open_may_finish s j x is = rw is refl

  -- where a job is unknown, it is not open
  pub unknown_is_closed : (s : State K V Q) (j : ℕ) → refusal kind s (abandon j) ≡ Some NoJob → job_at s j ≡ None
  unknown_is_closed s j is = by (job_at s j) refl
    where
      by : (o : Option (Job K V Q)) → job_at s j ≡ o → job_at s j ≡ None
      by None at = at
      by (Some x) at = both_ways NoJob _ is (open_has_no_refusal s j x at)

  -- what was foreseen tells that there is no room
  pub full_as_foreseen : (s : State K V Q) (h : ℕ) (a : Result (Unit {0}) Refusal) → Foresees kind s (drop_handle h) unit_outcome a → a ≡ Err JournalFull → room s < 2
  full_as_foreseen s h a sees is = full_has_no_room s h (subst (λ x. Foresees kind s (drop_handle h) unit_outcome x) is sees)

  -- what was foreseen tells that the job is not open
  pub closed_as_foreseen : (s : State K V Q) (j : ℕ) (a : Result (Unit {0}) Refusal) → Foresees kind s (abandon j) unit_outcome a → a ≡ Err NoJob → job_at s j ≡ None
  closed_as_foreseen s j a sees is = unknown_is_closed s j (subst (λ x. Foresees kind s (abandon j) unit_outcome x) is sees)
