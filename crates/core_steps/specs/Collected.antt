-- What the collecting of all parts comes to on the workers' states of one job.
use Rattle.std.specs.Prelude.{◌≡◌, ◌⊎◌, ℕ, ◌<◌, List, [], length, Option, Some, None}
use Rattle.trie_shape.specs.Map.{Map}
use Rattle.iter.specs.Intervals.{parts}
use Rattle.worker_states.specs.Boards.{worker, all_worked}
use Rattle.worker_states.specs.WorkerValues.{WorkerValue, board}
use Rattle.core_steps.specs.Invariants.{waiting}

module _ {K V P : Type 0} (path : K → ℕ) (answers : Map K V → P → Type 0) (Decides : Map K V → Type 0) (m : Map K V) where
  -- the worker's own pairs decide
  abbrev pub HasDecided : List (WorkerValue K V P) → ℕ → Type 0
  HasDecided ds w = Decides (parts path m (worker (board ds) w).worked)

  -- there is a worker whose own pairs decide
  abbrev pub SomeDecided : List (WorkerValue K V P) → Type 0
  SomeDecided ds = (w : ℕ) × (w < length ds) × HasDecided ds w

  -- a part that answers the whole map, where some worker's own pairs decide; none where no worker's do
  abbrev pub IsSettledPart : List (WorkerValue K V P) → Option P → Type 0
  IsSettledPart ds (Some part) = answers m part × SomeDecided ds
  IsSettledPart ds None = SomeDecided ds → ⊥

  -- nothing waits, nothing is held, and the part answers all that was worked
  abbrev pub IsJoined : List (WorkerValue K V P) → P → Type 0
  IsJoined ds part = (waiting (board ds) ≡ []) × answers (parts path m (all_worked (board ds))) part

  -- there is a part that answers the whole map: nothing waits and nothing is held, or some worker's own pairs decide
  abbrev pub MayCollect : List (WorkerValue K V P) → Type 0
  MayCollect ds = (waiting (board ds) ≡ []) ⊎ SomeDecided ds

  -- a part of all that was worked where nothing else is left, or one that answers the whole map already; none where there is neither
  abbrev pub IsCollected : List (WorkerValue K V P) → Option P → Type 0
  IsCollected ds (Some part) = IsJoined ds part ⊎ (answers m part × SomeDecided ds)
  IsCollected ds None = (waiting (board ds) ≡ [] → ⊥) × (SomeDecided ds → ⊥)
