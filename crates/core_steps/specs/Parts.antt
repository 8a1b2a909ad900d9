-- What a core shows of the parts of its workers, and which steps change them.
use Rattle.std.specs.Prelude.{◌≡◌, ℕ, List, [], ◌∷◌, Option, unwrap_or, slice_get, slice_set}
use Rattle.std.specs.Ordering.{nat_cmp}
use Rattle.versions.specs.Map.{Map, value_at, with_pair, without}
use Rattle.handles.specs.declared.limits.Limits.{Limits}
use Rattle.handles.specs.Machine.{freeze, finish, abandon, made, frozen, finished}
use Rattle.worker_states.specs.Boards.{Move, working, MoveResult, done}
pub use Rattle.worker_states.specs.WorkerValues.{PartsMove}
use Rattle.core_steps.specs.Cores.{CoreState, Asked, of_client, of_worker, CoreOutcome, to_client, to_worker, new_core}

-- what contracts see of a core: its state, and for each open job the parts of its workers, in order of their numbers
pub record CoreValue (K V Q P : Type 0) : Type 0 where
  pub state : CoreState K V Q
  pub parts : Map ℕ (List P)

-- a core with no handles and no jobs, and so no parts
abbrev pub new_value : {K V Q P : Type 0} → Limits → ℕ → ℕ → CoreValue K V Q P
new_value limits workers grain = record { state = new_core limits workers grain; parts = [] }

module _ {P : Type 0} where
  -- the parts of a job's workers
  abbrev pub parts_of_job : Map ℕ (List P) → ℕ → List P
  parts_of_job ps j = unwrap_or (value_at nat_cmp ps j) []

  -- the part of a worker of a job, if there is such a job and such a worker
  abbrev pub part_at : Map ℕ (List P) → ℕ → ℕ → Option P
  part_at ps j w = slice_get (parts_of_job ps j) w

  -- the same of the parts of all jobs
  abbrev pub PartsMoved : Map ℕ (List P) → ℕ → Move → MoveResult → Map ℕ (List P) → Type 0
  PartsMoved ps j (working w) (done lo hi n settled) qs = (p : P) × (qs ≡ with_pair nat_cmp ps j (slice_set (parts_of_job ps j) w p))
  PartsMoved ps j x y qs = qs ≡ ps

  -- the parts after a step: a freeze adds those of its job, the end of a job takes its parts away, and a worker that has worked a piece has another part; all others stay
  abbrev pub PartsStep : {K V Q B : Type 0} → Map ℕ (List P) → CoreOutcome K V B → Asked K V Q → Map ℕ (List P) → Type 0
  PartsStep ps (to_client (frozen j m)) x qs = (news : List P) × (qs ≡ with_pair nat_cmp ps j news)
  PartsStep ps (to_client (finished b)) (of_client (finish j)) qs = qs ≡ without nat_cmp ps j
  PartsStep ps (to_client made) (of_client (abandon j)) qs = qs ≡ without nat_cmp ps j
  PartsStep ps (to_worker y) (of_worker j x) qs = PartsMoved ps j x y qs
  PartsStep ps y x qs = qs ≡ ps

  -- the parts after steps that were answered so, one after another
  abbrev pub PartsRun : {K V Q B : Type 0} → Map ℕ (List P) → List (Asked K V Q) → List (CoreOutcome K V B) → Map ℕ (List P) → Type 0
  PartsRun ps [] [] qs = ps ≡ qs
  PartsRun ps (x ∷ xs) (y ∷ ys) qs = (rs : Map ℕ (List P)) × PartsStep ps y x rs × PartsRun rs xs ys qs
  PartsRun ps _ _ qs = ⊥
