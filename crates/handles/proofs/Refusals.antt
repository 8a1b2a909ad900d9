-- What follows of a request that is refused, or is not.
use Rattle.std.proofs.Common.{◌≡◌, ℕ, ◌≤◌, Bool, true, false, not, cond, ◌&&◌, ◌||◌, ◌∙◌, refl, sym, ap, subst, arith, Option, Some, None}
use Rattle.std.specs.Prelude.{is_some, nat_lt}
use Rattle.std.proofs.lemmas.Bool.Decides.{nat_tests}
use Rattle.versions.specs.Commands.{Command}
use Rattle.versions.specs.declared.refusal.Refusal.{Refusal}
use Rattle.versions.specs.declared.refusal.Refusal.TheVariants.{JournalFull, BadNumber, NoHandle, NoJob, Full}
use Rattle.held_maps.specs.declared.limits.TheConstants.{LAST_HANDLE}
use Rattle.handles.specs.Machine.{Kind, State, Request, on, freeze, finish, refusal, is_bad, is_entry, lacks_place, needs_room, room, job_at, map_at}
use Rattle.handles.specs.Jobs.{IsPlace}
use Rattle.handles.specs.Views.{IsFullAlone, requested}
use Rattle.handles.specs.declared.request_ref.RequestRef.{RequestRef}
use Rattle.handles.specs.declared.request_ref.RequestRef.TheVariants as requests

none_first : (b : Bool) (x : Refusal) (rest : Option Refusal) → cond b (Some x) rest ≡ None → (b ≡ false) × (rest ≡ None)
none_first true x rest e = absurd (cc)
none_first false x rest e = (refl, e)

full_is_no_entry : (b : Bool) (rest : Option Refusal) (e : Refusal) → cond b (Some JournalFull) rest ≡ Some e → is_entry e ≡ true → b ≡ false
full_is_no_entry true rest e h entry =
    let same : JournalFull ≡ e = cc in
    let no : is_entry JournalFull ≡ true = subst (λ (x : Refusal). is_entry x ≡ true) (sym same) entry in
    absurd (cc)
full_is_no_entry false rest e h entry = refl

not_below : (n m : ℕ) → nat_lt n m ≡ false → m ≤ n
not_below n m e = grind (arith, nat_tests)

second : (a b : Bool) → (a || b) ≡ false → b ≡ false
second true b e = absurd (cc)
second false b e = e

other_is : (a b : Bool) → a ≡ true → (a && b) ≡ false → b ≡ false
other_is true b is e = e
other_is false b is e = absurd (cc)

no_journal_full : (b full : Bool) (rest : Option Refusal) → cond b (Some JournalFull) rest ≡ cond full (Some Full) None → b ≡ false
no_journal_full true true rest e = absurd (cc)
no_journal_full true false rest e = absurd (cc)
no_journal_full false full rest e = refl

is_place : (o : Option ℕ) → is_bad o ≡ false → IsPlace o
is_place None e = tt
is_place (Some to) e = let le : to ≤ 1023 = not_below 1023 to e in omega arith

module _ {K V Q A B : Type 0} (kind : Kind K V Q A B) where
  -- no request but a command lacks a place
  pub never_full : (s : State K V Q) (r : RequestRef Q) → lacks_place kind s (requested r) ≡ false
  never_full s (requests.Open h) = refl
  never_full s (requests.Snapshot h to) = refl
  never_full s (requests.Drop h) = refl
  never_full s (requests.View h) = refl
  never_full s (requests.Freeze h q) = refl
  never_full s (requests.Finish j) = refl
  never_full s (requests.Abandon j) = refl

  -- a request that needs room and is not refused has it
  pub granted_has_room : (s : State K V Q) (r : Request K V Q) → needs_room r ≡ true → refusal kind s r ≡ None → 2 ≤ room s
  granted_has_room s r needs none = not_below (room s) 2 (other_is (needs_room r) (nat_lt (room s) 2) needs (none_first _ JournalFull _ none).0)

  -- so has one that is refused, where that is an entry
  pub entry_has_room : (s : State K V Q) (r : Request K V Q) (e : Refusal) → needs_room r ≡ true → refusal kind s r ≡ Some e → is_entry e ≡ true → 2 ≤ room s
  entry_has_room s r e needs is entry = not_below (room s) 2 (other_is (needs_room r) (nat_lt (room s) 2) needs (full_is_no_entry _ _ e is entry))

  -- a command on a live handle, for which there is room, is refused as `Full` alone
  pub live_is_full_alone : (s : State K V Q) (h : ℕ) (c : Command K V) → nat_lt (room s) 2 ≡ false → nat_lt LAST_HANDLE h ≡ false → is_some (map_at s h) ≡ true → IsFullAlone kind s h c
  live_is_full_alone s h c free place live = λ i. cond (free i) (Some JournalFull) (cond (place i || false) (Some BadNumber) (cond (not (live i)) (Some NoHandle) (cond (lacks_place kind s (on h c)) (Some Full) None)))

  -- a command that is not refused is not refused as `Full`
  pub full_alone : (s : State K V Q) (h : ℕ) (c : Command K V) → refusal kind s (on h c) ≡ None → IsFullAlone kind s h c
  full_alone s h c none = none ∙ sym (none_first _ NoHandle _ (none_first _ BadNumber _ (none_first _ JournalFull _ none).1).1).1

  -- a command that is refused as `Full` alone, if at all, has room
  pub full_alone_has_room : (s : State K V Q) (h : ℕ) (c : Command K V) → IsFullAlone kind s h c → 2 ≤ room s
  full_alone_has_room s h c alone = not_below (room s) 2 (no_journal_full _ _ _ alone)

  -- the target of a freeze that is not refused is the number of a place
  pub freeze_has_place : (s : State K V Q) (h : ℕ) (q : Q) → refusal kind s (freeze h q) ≡ None → IsPlace (kind.target q)
  freeze_has_place s h q none = is_place (kind.target q) (second (is_bad (Some h)) (is_bad (kind.target q)) (none_first _ BadNumber _ (none_first _ JournalFull _ none).1).0)

  -- an end of a job is refused where the job is not open alone
  pub end_is_no_job : (s : State K V Q) (j : ℕ) (e : Refusal) → refusal kind s (finish j) ≡ Some e → e ≡ NoJob
  end_is_no_job s j e is =
      elim (is_some (job_at s j)) as (λ b. cond (not b) (Some NoJob) None ≡ Some e → e ≡ NoJob) [
        | true ↦ λ h. absurd (cc)
        | false ↦ λ h. cc
      ] is

  -- that is no entry
  pub end_is_no_entry : (s : State K V Q) (j : ℕ) (e : Refusal) → refusal kind s (finish j) ≡ Some e → is_entry e ≡ false
  end_is_no_entry s j e is = ap is_entry (end_is_no_job s j e is)

  -- where it is not refused, the job is open
  pub end_has_job : (s : State K V Q) (j : ℕ) → refusal kind s (finish j) ≡ None → is_some (job_at s j) ≡ true
  end_has_job s j none =
      elim (is_some (job_at s j)) as (λ b. cond (not b) (Some NoJob) None ≡ None → b ≡ true) [
        | true ↦ λ h. refl
        | false ↦ λ h. absurd (cc)
      ] none
