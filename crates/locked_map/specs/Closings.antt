-- What a map leaves that is closed.
use Rattle.std.specs.Prelude.{◌≡◌, ℕ, ◌<◌, All, List, None, Some, length, slice_index_or, true}
use Rattle.handles.specs.declared.limits.Limits.{Limits}
use Rattle.handles.specs.Machine.{Kind, State, job_at, room}
use Rattle.journal.specs.Journals.{Entered, IsLegal, own}
use Rattle.locked_map.specs.Seats.{AboveFloors, Seated, pairs}

-- a map under these limits was closed with these seats: its journal is legal and leads to this state, no entry is of another seat, and those of each seat are what it filed, none of them below the floor beside it; where a seat is marked full the room is below 2, and no job that a seat is marked with is open
pub record IsClosedWith {K V Q A B : Type 0} (kind : Kind K V Q A B) (limits : Limits) (seats : List (Seated K V Q B)) (journal : List (Entered K V Q B)) (t : State K V Q) : Type 0 where
  pub legal : IsLegal kind limits journal t
  pub known : All (λ e. e.seat < length seats) journal
  pub each : (k : ℕ) (s : Seated K V Q B) → k < length seats → own k 0 journal ≡ pairs (slice_index_or seats k s).list
  pub floors : (k : ℕ) (s : Seated K V Q B) → k < length seats → AboveFloors (slice_index_or seats k s).list
  pub full : (k : ℕ) (s : Seated K V Q B) → k < length seats → (slice_index_or seats k s).full ≡ true → room t < 2
  pub unknown : (k : ℕ) (s : Seated K V Q B) → k < length seats → (j : ℕ) → (slice_index_or seats k s).unknown ≡ Some j → job_at t j ≡ None

-- the journal and the state that a map leaves bear out the seat of this number: its entries are what it filed, none of them below the floor beside it; where it is marked full the room is below 2, and no job that it is marked with is open
pub record BearsOut {K V Q B : Type 0} (k : ℕ) (s : Seated K V Q B) (journal : List (Entered K V Q B)) (t : State K V Q) : Type 0 where
  pub entries : own k 0 journal ≡ pairs s.list
  pub floors : AboveFloors s.list
  pub full : s.full ≡ true → room t < 2
  pub unknown : (j : ℕ) → s.unknown ≡ Some j → job_at t j ≡ None
