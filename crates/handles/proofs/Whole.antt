-- What every call of a table keeps of its parts.
use Rattle.std.proofs.Common.{◌≡◌, ℕ, ◌+◌, ◌-◌, ◌*◌, ◌≤◌, Bool, true, false, length, refl, ap, sym, subst, ◌∙◌, arith, Option, Some, None}
use Rattle.std.specs.Prelude.{Result, Ok, Err, IfOk, OnOk, IfErr, OnErr, if◌then◌else◌, is_some}
use Rattle.std.specs.Ordering.{nat_cmp}
use Rattle.versions.specs.declared.refusal.Refusal.{Refusal}
use Rattle.versions.specs.declared.refusal.Refusal.TheVariants.{NoMemory}
use Rattle.versions.specs.Map.{Map, value_at, with_pair, without}
use Rattle.handles.specs.Machine.{Job, is_entry}
use Rattle.handles.specs.Handles.{HeldMaps}
use Rattle.handles.specs.Jobs.{AllCanFinish, IsPlace, Opened}
use Rattle.handles.specs.Views.{is_counted}
use Rattle.handles.proofs.JobMaps.{can_finish-put, can_finish-without, fewer, length-put}

-- the entries after a call that was answered so
pub counted_one : {T : Type 0} (a b : Result T Refusal) (n m after : ℕ) → after ≡ (if is_counted a then n + 1 else n) → a ≡ b → n ≡ m → is_counted b ≡ true → after ≡ m + 1
counted_one a b n m after count same before is =
    count ∙ ap (λ (x : Bool). if x then n + 1 else n) (ap is_counted same ∙ is) ∙ ap (λ (x : ℕ). x + 1) before

pub counted_none : {T : Type 0} (a b : Result T Refusal) (n m after : ℕ) → after ≡ (if is_counted a then n + 1 else n) → a ≡ b → n ≡ m → is_counted b ≡ false → after ≡ m
counted_none a b n m after count same before is =
    count ∙ ap (λ (x : Bool). if x then n + 1 else n) (ap is_counted same ∙ is) ∙ before

pub counted_as : {T : Type 0} (a b : Result T Refusal) (n m after : ℕ) → after ≡ (if is_counted a then n + 1 else n) → a ≡ b → n ≡ m → after ≡ (if is_counted b then m + 1 else m)
counted_as a b n m after count same before = count ∙ (λ i. if is_counted (same i) then before i + 1 else before i)

module _ {K V Q : Type 0} (target : Q → Option ℕ) (pairs most : ℕ) where
  -- the parts of a table, with limits on pairs and entries
  abbrev pub Whole : HeldMaps K V → Opened K V Q → ℕ → Type 0
  Whole places jobs n = (n + length jobs.jobs ≤ most) × (places.limit ≡ pairs) × (places.issued ≤ 2 * n) × (jobs.next ≤ n) × AllCanFinish target pairs jobs.jobs

  pub whole_same : (places : HeldMaps K V) (jobs : Opened K V Q) (n after : ℕ) → Whole places jobs n → after ≡ n → Whole places jobs after
  whole_same places jobs n after whole same = (omega (arith, whole.0, same), whole.1, omega (arith, whole.2, same), omega (arith, whole.3, same), whole.4)

  -- a job is closed
  pub whole_closed : (places later : HeldMaps K V) (jobs left : Opened K V Q) (j n after : ℕ) → Whole places jobs n
      → is_some (value_at nat_cmp jobs.jobs j) ≡ true → left.jobs ≡ without nat_cmp jobs.jobs j → left.next ≡ jobs.next
      → later.limit ≡ places.limit → later.issued ≤ places.issued + 1 → after ≡ n + 1 → Whole later left after
  whole_closed places later jobs left j n after whole there closed next limit issued more =
      let less = elim (value_at nat_cmp jobs.jobs j) as (λ o. value_at nat_cmp jobs.jobs j ≡ o → is_some o ≡ true → length (without nat_cmp jobs.jobs j) + 1 ≤ length jobs.jobs) [
        | Some job ↦ λ e is. fewer jobs.jobs j job e
        | None ↦ λ e is. absurd (cc)
      ] refl there in (
        omega (arith, less, ap length closed, whole.0, more),
        limit ∙ whole.1,
        omega (arith, issued, whole.2, more),
        omega (arith, next, whole.3, more),
        subst (AllCanFinish target pairs) (sym closed) (can_finish-without target pairs jobs.jobs j whole.4),
      )

  -- a job is opened, or there was no memory
  pub whole_opened : (places : HeldMaps K V) (jobs left : Opened K V Q) (q : Q) (n after : ℕ) (result : Result (ℕ × Map K V) Refusal) → Whole places jobs n
      → 2 ≤ most - n - length jobs.jobs → IsPlace (target q)
      → IfOk result (λ shown. length shown.1 ≤ places.limit)
      → IfOk result (λ shown. left.jobs ≡ with_pair nat_cmp jobs.jobs jobs.next (record { query = q; frozen = shown.1 }))
      → OnOk result (left.next ≡ jobs.next + 1) → IfErr result (λ e. e ≡ NoMemory) → OnErr result (left ≡ jobs)
      → after ≡ (if is_counted result then n + 1 else n) → Whole places left after
  whole_opened places jobs left q n after (Ok shown) whole room place fits opened next memory kept count =
      let job : Job K V Q = record { query = q; frozen = shown.1 } in (
        omega (arith, length-put jobs.jobs jobs.next job, ap length opened, room, count),
        whole.1,
        omega (arith, whole.2, count),
        omega (arith, whole.3, next, count),
        subst (AllCanFinish target pairs) (sym opened) (can_finish-put target pairs jobs.jobs jobs.next job whole.4 (record { fits = subst (λ l. length shown.1 ≤ l) whole.1 fits; place = place })),
      )
  whole_opened places jobs left q n after (Err e) whole room place fits opened next memory kept count =
      let same : after ≡ n = count ∙ ap (λ (x : Refusal). if is_entry x then n + 1 else n) memory in
      subst (λ (o : Opened K V Q). Whole places o after) (sym kept) (whole_same places jobs n after whole same)

  -- a request was refused, which is an entry only where there is room
  pub whole_refused : (places : HeldMaps K V) (jobs : Opened K V Q) (n after : ℕ) (e : Refusal) → Whole places jobs n
      → (is_entry e ≡ true → 2 ≤ most - n - length jobs.jobs) → after ≡ (if is_entry e then n + 1 else n) → Whole places jobs after
  whole_refused places jobs n after e whole room count =
      elim (is_entry e) as (λ b. (b ≡ true → 2 ≤ most - n - length jobs.jobs) → after ≡ (if b then n + 1 else n) → Whole places jobs after) [
        | true ↦ λ room count. let free = room refl in (omega (arith, free, count), whole.1, omega (arith, whole.2, count), omega (arith, whole.3, count), whole.4)
        | false ↦ λ room count. whole_same places jobs n after whole count
      ] room count

  -- a map was written, or there was no memory
  pub whole_written : (places later : HeldMaps K V) (jobs : Opened K V Q) (n after : ℕ) (is : Bool) → Whole places jobs n
      → 2 ≤ most - n - length jobs.jobs → later.limit ≡ places.limit → later.issued ≡ places.issued → after ≡ (if is then n + 1 else n) → Whole later jobs after
  whole_written places later jobs n after true whole room limit issued count =
      (omega (arith, room, count), limit ∙ whole.1, omega (arith, issued, whole.2, count), omega (arith, whole.3, count), whole.4)
  whole_written places later jobs n after false whole room limit issued count =
      (omega (arith, whole.0, count), limit ∙ whole.1, omega (arith, issued, whole.2, count), omega (arith, whole.3, count), whole.4)
