-- The outcomes of calls, by their results.
use Rattle.std.specs.Prelude.{◌≡◌, Result, Ok, Err, Some, true}
use Rattle.versions.specs.declared.refusal.Refusal.{Refusal}
use Rattle.versions.specs.declared.refusal.Refusal.TheVariants.{NoJob, JournalFull, NoMemory}
use Rattle.handles.specs.Machine.{Kind, State, Request, Outcome, refused, refusal, is_entry}

-- the outcome of a call with this result
abbrev pub answered : {K V B T : Type 0} → (T → Outcome K V B) → Result T Refusal → Outcome K V B
answered shown (Ok x) = shown x
answered shown (Err e) = refused e

-- the outcome of a call with this result, of whose error this part is the refusal
abbrev pub answered_or : {K V B T E : Type 0} → (T → Outcome K V B) → (E → Refusal) → Result T E → Outcome K V B
answered_or shown refusal_in (Ok x) = shown x
answered_or shown refusal_in (Err e) = refused (refusal_in e)

-- why a call makes no entry: one of the refusals was due that are no entries; or memory ran out, and none of these was due
abbrev pub IsUnfiled : {K V Q A B : Type 0} → Kind K V Q A B → State K V Q → Request K V Q → Refusal → Type 0
IsUnfiled kind s r NoMemory = (e : Refusal) → refusal kind s r ≡ Some e → is_entry e ≡ true
IsUnfiled kind s r JournalFull = refusal kind s r ≡ Some JournalFull
IsUnfiled kind s r NoJob = refusal kind s r ≡ Some NoJob
IsUnfiled kind s r e = ⊥
