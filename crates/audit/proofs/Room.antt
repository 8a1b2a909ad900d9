-- A run keeps a place in the journal for the end of each open job, so it has no more entries than the journal may.
use Rattle.std.proofs.Common.{◌≡◌, Bool, true, false, ℕ, ◌+◌, ◌-◌, ◌<◌, ◌≤◌, ◌∙◌, inl, inr, List, length, Some, None, refl, sym, ap, subst, arith}
use Rattle.std.specs.Prelude.{ℤ, Option, is_some, not, nat_lt, if◌then◌else◌}
use Rattle.std.proofs.lemmas.Bool.Decides.{nat_tests}
use Rattle.std.specs.declared.cmp.Ordering.{Ordering}
use Rattle.std.specs.declared.cmp.Ordering.TheVariants.{Less, Equal, Greater}
use Rattle.std.specs.Ordering.{nat_cmp, is_eq}
use Rattle.std.specs.FinMap.{nat_cmp-IsAntisymmetric}
use Rattle.versions.specs.declared.refusal.Refusal.{Refusal}
use Rattle.versions.specs.declared.refusal.Refusal.TheVariants.{JournalFull, NoJob}
use Rattle.versions.specs.Map.{Map, with_pair, without}
use Rattle.handles.specs.Machine.{Step, Granted, Job, job_at, needs_room, refusal, room, is_entry}
use Rattle.handles.specs.Machine.{open_handle, snapshot, drop_handle, on, view, freeze, finish, abandon, worker_step}
use Rattle.handles.proofs.JobMaps.{length-put, fewer}
use Rattle.journal.specs.Journals.{is_filed}
use Rattle.questions.specs.Program.{program, ProgramState, ProgramRequest, ProgramOutcome, largest}
use Rattle.questions.specs.Queries.{ScriptQuestion}
use Rattle.questions.proofs.OneStep.{Settled, settled, refused_in, one_open, one_snapshot, one_reply, one_drop, one_abandon, one_freeze, one_view}
use Rattle.audit.specs.Runs.{MayBeAsked}
use Rattle.audit.proofs.MapLemmas.{Each, each_put, each_without, each_at, each_weaker}
use Rattle.audit.proofs.OneState.{finish_outcome}

-- a job of the program
abbrev pub ProgramJob : Type 0
ProgramJob = Job (List ℕ) ℤ ScriptQuestion

-- nothing is said of it
abbrev pub Any : {A : Type 0} → A → Type 0
Any x = Unit {0}

-- each open job has a number below this one
abbrev pub AreBelow : ℕ → Map ℕ ProgramJob → Type 0
AreBelow n jobs = Each (λ j. j < n) Any jobs

-- there is a place for the end of each open job, and there were no more jobs than entries
pub record HasRoom (s : ProgramState) : Type 0 where
  pub limits : s.limits ≡ largest
  pub places : s.entries + length s.jobs ≤ 1048576
  pub numbers : AreBelow s.next s.jobs
  pub next : s.next ≤ s.entries

-- there are two places for entries besides these ends
abbrev HasTwoPlaces : ProgramState → Type 0
HasTwoPlaces s = s.entries + length s.jobs + 2 ≤ 1048576

-- a filed outcome of what may be asked, made in such a state, keeps what is said of the state
abbrev pub IsKept : (ProgramState → Type 0) → (ProgramState → ProgramRequest → ProgramOutcome → ProgramState → Type 0) → Type 0
IsKept Has Makes = (s : ProgramState) (r : ProgramRequest) (o : ProgramOutcome) (t : ProgramState) → MayBeAsked r → is_filed o ≡ true → Has s
    → Makes s r o t → Has t

-- ---- where a request needs a place, there are two

journal_full : (b : Bool) (rest found : Option Refusal) → (if b then Some JournalFull else rest) ≡ found → (found ≡ Some JournalFull → ⊥) → b ≡ false
journal_full true rest found is other = absurd (other (sym is))
journal_full false rest found is other = refl

not_full : (s : ProgramState) (r : ProgramRequest) (found : Option Refusal) → needs_room r ≡ true → refusal program s r ≡ found → (found ≡ Some JournalFull → ⊥)
    → nat_lt (room s) 2 ≡ false
not_full s (finish j) found n is other = cc
not_full s (abandon j) found n is other = cc
not_full s worker_step found n is other = cc
not_full s (open_handle h) found n is other = journal_full (nat_lt (room s) 2) _ found is other
not_full s (snapshot h to) found n is other = journal_full (nat_lt (room s) 2) _ found is other
not_full s (drop_handle h) found n is other = journal_full (nat_lt (room s) 2) _ found is other
not_full s (on h c) found n is other = journal_full (nat_lt (room s) 2) _ found is other
not_full s (view h) found n is other = journal_full (nat_lt (room s) 2) _ found is other
not_full s (freeze h q) found n is other = journal_full (nat_lt (room s) 2) _ found is other

two_places : (s : ProgramState) → HasRoom s → nat_lt (room s) 2 ≡ false → HasTwoPlaces s
two_places s k is =
    let limit : s.limits.entries ≡ 1048576 = ap (λ (l : _). l.entries) k.limits in
    let free : 2 ≤ s.limits.entries - s.entries - length s.jobs = grind (arith, nat_tests) in
    omega (arith, limit, free)

-- what is granted found two places
places_for : (s : ProgramState) (r : ProgramRequest) → HasRoom s → needs_room r ≡ true → refusal program s r ≡ None → HasTwoPlaces s
places_for s r k n none = two_places s k (not_full s r None n none (λ e. cc))

-- ---- what is left

one_more : (s : ProgramState) (live : Map ℕ (Map (List ℕ) ℤ)) → HasRoom s → HasTwoPlaces s → HasRoom (record s { live = live; entries = s.entries + 1 })
one_more s live k free = record { limits = k.limits; places = omega arith; numbers = k.numbers; next = omega (arith, k.next) }

one_opened : (s : ProgramState) (job : ProgramJob) → HasRoom s → HasTwoPlaces s
    → HasRoom (record s { jobs = with_pair nat_cmp s.jobs s.next job; next = s.next + 1; entries = s.entries + 1 })
one_opened s job k free = record {
  limits = k.limits;
  places = omega (arith, length-put s.jobs s.next job);
  numbers = each_put nat_cmp (λ j. j < s.next + 1) Any s.jobs s.next job later (omega arith) tt;
  next = omega (arith, k.next);
}
  where
    later : AreBelow (s.next + 1) s.jobs
    later = each_weaker (λ j. j < s.next) (λ j. j < s.next + 1) Any (λ j below. omega arith) s.jobs k.numbers

one_closed : (s : ProgramState) (live : Map ℕ (Map (List ℕ) ℤ)) (j : ℕ) (job : ProgramJob) → HasRoom s → job_at s j ≡ Some job
    → HasRoom (record s { live = live; jobs = without nat_cmp s.jobs j; entries = s.entries + 1 })
one_closed s live j job k there = record {
  limits = k.limits;
  places = omega (arith, fewer s.jobs j job there, k.places);
  numbers = each_without nat_cmp (λ i. i < s.next) Any s.jobs j k.numbers;
  next = omega (arith, k.next);
}

refused_so : (s : ProgramState) (e : Refusal) (b : Bool) → HasRoom s → is_entry e ≡ b → b ≡ true → HasTwoPlaces s → HasRoom (refused_in s e)
refused_so s e true k is there free =
    let same : refused_in s e ≡ record s { entries = s.entries + 1 } = ap (λ (b : Bool). record s { entries = if b then s.entries + 1 else s.entries }) is in
    subst HasRoom (sym same) (one_more s s.live k free)
refused_so s e false k is there free = cc

-- a job that is named is open
pub open_job : (found : Option ProgramJob) → (if not (is_some found) then Some NoJob else None) ≡ None → (job : ProgramJob) × (found ≡ Some job)
open_job None e = cc
open_job (Some job) e = (job, refl)

pub no_end_entry : (b : Bool) (e : Refusal) → (if b then Some NoJob else None) ≡ Some e → is_entry e ≡ true → ⊥
no_end_entry true e is entry = let same : NoJob ≡ e = cc in let none : is_entry e ≡ false = sym (ap is_entry same) in cc
no_end_entry false e is entry = cc

other_than : (e : Refusal) → is_entry e ≡ true → Some e ≡ Some JournalFull → ⊥
other_than e entry is = let same : e ≡ JournalFull = cc in let none : is_entry e ≡ false = ap is_entry same in cc

refusal_has_room : (s : ProgramState) (r : ProgramRequest) (e : Refusal) → MayBeAsked r → HasRoom s → refusal program s r ≡ Some e → is_entry e ≡ true
    → HasTwoPlaces s
refusal_has_room s (finish j) e may k is entry = absurd (no_end_entry (not (is_some (job_at s j))) e is entry)
refusal_has_room s (abandon j) e may k is entry = absurd (no_end_entry (not (is_some (job_at s j))) e is entry)
refusal_has_room s worker_step e may k is entry = absurd may
refusal_has_room s (open_handle h) e may k is entry = two_places s k (not_full s (open_handle h) (Some e) refl is (other_than e entry))
refusal_has_room s (snapshot h to) e may k is entry = two_places s k (not_full s (snapshot h to) (Some e) refl is (other_than e entry))
refusal_has_room s (drop_handle h) e may k is entry = two_places s k (not_full s (drop_handle h) (Some e) refl is (other_than e entry))
refusal_has_room s (on h c) e may k is entry = two_places s k (not_full s (on h c) (Some e) refl is (other_than e entry))
refusal_has_room s (view h) e may k is entry = two_places s k (not_full s (view h) (Some e) refl is (other_than e entry))
refusal_has_room s (freeze h q) e may k is entry = two_places s k (not_full s (freeze h q) (Some e) refl is (other_than e entry))

granted_has_room : IsKept HasRoom (λ s r o t. (refusal program s r ≡ None) × Granted program s r o t)
granted_has_room s (open_handle h) o t may filed k (none, g) =
    subst HasRoom (sym (one_open s h o t g).1) (one_more s _ k (places_for s (open_handle h) k refl none))
granted_has_room s (snapshot h to) o t may filed k (none, g) =
    subst HasRoom (sym (one_snapshot s h to o t g).1) (one_more s _ k (places_for s (snapshot h to) k refl none))
granted_has_room s (drop_handle h) o t may filed k (none, g) =
    subst HasRoom (sym (one_drop s h o t g).1) (one_more s _ k (places_for s (drop_handle h) k refl none))
granted_has_room s (on h c) o t may filed k (none, g) = subst HasRoom (sym (one_reply s h c o t g).1) (one_more s _ k (places_for s (on h c) k refl none))
granted_has_room s (view h) o t may filed k (none, g) = subst HasRoom (sym (one_view s h o t g).1) (one_more s s.live k (places_for s (view h) k refl none))
granted_has_room s (freeze h q) o t may filed k (none, g) =
    subst HasRoom (sym (one_freeze s h q o t g).1) (one_opened s _ k (places_for s (freeze h q) k refl none))
granted_has_room s (finish j) o t may filed k (none, g) =
    let f = (finish_outcome s j o t filed g).2 in
    subst HasRoom (sym f.left) (one_closed s _ j f.job k f.named)
granted_has_room s (abandon j) o t may filed k (none, g) =
    subst HasRoom (sym (one_abandon s j o t g).1) (one_closed s s.live j _ k (open_job (job_at s j) none).1)
granted_has_room s worker_step o t may filed k (none, g) = absurd may

settled_has_room : IsKept HasRoom Settled
settled_has_room s r o t may filed k (inl (e, is, why, left)) =
    let entry : is_entry e ≡ true = sym (ap is_filed is) ∙ filed in
    subst HasRoom (sym left) (refused_so s e true k entry refl (refusal_has_room s r e may k why entry))
settled_has_room s r o t may filed k (inr (none, g)) = granted_has_room s r o t may filed k (none, g)

-- an entry keeps the room
pub step_has_room : IsKept HasRoom (Step program)
step_has_room s r o t may filed k step = settled_has_room s r o t may filed k (settled s r o t step)

-- ---- the numbers of jobs

equal_order : (o : Ordering) → is_eq o ≡ true → o ≡ Equal
equal_order Less e = cc
equal_order Equal e = refl
equal_order Greater e = cc

-- an open job has a number below the limit of entries
pub job_number : (s : ProgramState) (j : ℕ) (job : ProgramJob) → HasRoom s → job_at s j ≡ Some job → j < 1048576
job_number s j job k there =
    let found = each_at nat_cmp (λ i. i < s.next) Any s.jobs j job k.numbers there in
    let same : j ≡ found.0 = nat_cmp-IsAntisymmetric j found.0 (equal_order (nat_cmp j found.0) found.1) in
    omega (arith, found.2, k.next, k.places, fewer s.jobs j job there)
