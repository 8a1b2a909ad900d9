-- Seats: what one has filed, and what a call adds to it.
use Rattle.std.specs.Prelude.{◌≡◌, ℕ, ◌+◌, ◌≤◌, ◌<◌, Bool, true, false, List, [], ◌∷◌, ◌++◌, map, All, max, length, slice_index_or, Option, Some, None, IsSome}
use Rattle.boxcar.specs.Table.{Shelves, Shows}
use Rattle.bulk_work.specs.Answers as plain
use Rattle.versions.specs.declared.refusal.Refusal.{Refusal}
use Rattle.versions.specs.declared.refusal.Refusal.TheVariants.{NoJob, Unfinished, NoWorker, JournalFull, NoMemory}
use Rattle.handles.specs.Machine.{Request, job_of, needs_room, Outcome, unfinished, refused, worked}
use Rattle.journal.specs.Journals.{Entered}
use Rattle.journal.specs.Tokens.{entry_at}
use Rattle.filed_entries.specs.declared.filed.Filed.{Filed}

-- an entry at its place in the journal, with the floor that its seat had
pub record Placed (K V Q B : Type 0) : Type 0 where
  pub place : ℕ
  pub floor : ℕ
  pub entry : Entered K V Q B

-- a seat: its number; its floor, below which no later entry of it stands; what it has filed, in order; whether it was answered JournalFull; and the first job for which it was answered NoJob
pub record Seated (K V Q B : Type 0) : Type 0 where
  pub number : ℕ
  pub floor : ℕ
  pub list : List (Placed K V Q B)
  pub full : Bool
  pub unknown : Option ℕ

module _ {K V Q I : Type 0} where
  -- what is filed, as the token of its entry shows it
  abbrev pub placed : Filed K V Q I → Placed K V Q (plain.Summary K V I)
  placed f = record { place = f.place; floor = f.floor; entry = entry_at f.token }

  -- the same of all that is filed
  abbrev pub placed_all : List (Filed K V Q I) → List (Placed K V Q (plain.Summary K V I))
  placed_all fs = map placed fs

  -- the tokens are of this vector
  abbrev pub AllOf : Shelves → List (Filed K V Q I) → Type 0
  AllOf t fs = All (λ (f : Filed K V Q I). Shows t f.token) fs

-- the first of two numbers that is there
abbrev pub first_of : Option ℕ → Option ℕ → Option ℕ
first_of (Some n) m = Some n
first_of None m = m

module _ {K V Q B : Type 0} where
  -- a seat that has filed nothing
  abbrev pub fresh : ℕ → Seated K V Q B
  fresh k = record { number = k; floor = 0; list = []; full = false; unknown = None }

  -- the seats are numbered from 0, and have filed nothing
  abbrev pub AllFresh : List (Seated K V Q B) → Type 0
  AllFresh seats = (k : ℕ) (s : Seated K V Q B) → k < length seats → slice_index_or seats k s ≡ fresh k

  -- each place is at least the floor beside it
  abbrev pub AboveFloors : List (Placed K V Q B) → Type 0
  AboveFloors ps = All (λ (p : Placed K V Q B). p.floor ≤ p.place) ps

  -- a seat's list without its floors
  abbrev pub pair : Placed K V Q B → ℕ × Entered K V Q B
  pair p = (p.place, p.entry)

  -- the same of each
  abbrev pub pairs : List (Placed K V Q B) → List (ℕ × Entered K V Q B)
  pairs ps = map pair ps

  -- the seat with one entry more, at this place of the journal, and the floor behind it
  abbrev pub with_entry : Seated K V Q B → Request K V Q → Outcome K V B → ℕ → Seated K V Q B
  with_entry s r o place = record s { floor = place + 1; list = s.list ++ record { place = place; floor = s.floor; entry = record { seat = s.number; request = r; outcome = o } } ∷ [] }

  -- the seat, marked as one that was answered JournalFull
  abbrev pub marked_full : Seated K V Q B → Seated K V Q B
  marked_full s = record s { full = true }

  -- the seat, marked with a job for which it was answered NoJob, unless it is marked with another
  abbrev pub marked_unknown : Seated K V Q B → Option ℕ → Seated K V Q B
  marked_unknown s j = record s { unknown = first_of s.unknown j }

  -- a seat after a call that made no entry: marked after JournalFull and NoJob, else as before
  abbrev pub marked_by : Seated K V Q B → Refusal → Option ℕ → Seated K V Q B
  marked_by s JournalFull j = marked_full s
  marked_by s NoJob j = marked_unknown s j
  marked_by s e j = s

  -- what a call adds to the seat that makes it: its entry; or a mark, where it needs room and is answered JournalFull, or ends a job and is answered NoJob; or nothing, where memory ran out. No call is answered as unfinished, as of no worker, or as a worker's step
  abbrev pub Adds : Seated K V Q B → Request K V Q → Outcome K V B → Seated K V Q B → Type 0
  Adds s r (refused JournalFull) t = (needs_room r ≡ true) × (t ≡ marked_full s)
  Adds s r (refused NoJob) t = IsSome (job_of r) × (t ≡ marked_unknown s (job_of r))
  Adds s r (refused NoMemory) t = t ≡ s
  Adds s r (refused Unfinished) t = ⊥
  Adds s r (refused NoWorker) t = ⊥
  Adds s r unfinished t = ⊥
  Adds s r worked t = ⊥
  Adds s r o t = (place : ℕ) × (t ≡ with_entry s r o place)

  -- two seats that met: each has the greater floor, and nothing else is changed
  abbrev pub met : Seated K V Q B → Seated K V Q B → Seated K V Q B
  met s other = record s { floor = max s.floor other.floor }
