-- The open jobs of a core, as its code keeps them.
use Rattle.std.specs.Prelude.{◌≡◌, ℕ, ◌<◌, List, length, map, Option, Some, None, slice_get, option_map}
use Rattle.std.specs.Arc.{arc_value}
use Rattle.std.specs.Ordering.{nat_cmp}
use Rattle.std.specs.declared.cmp.Ordering.{Ordering}
use Rattle.versions.specs.Map.{Map, IsMap, value_at}
use Rattle.handles.specs.Machine.{State, Job, job_at}
use Rattle.worker_states.specs.Boards.{Board}
use Rattle.core_steps.specs.Cores.{CoreState}
use Rattle.core_steps.specs.Parts.{CoreValue}
use Rattle.worker_states.specs.WorkerValues.{WorkerValue, board, state_parts, IsJobOn}
use Rattle.core_steps.specs.Invariants.{IsCore}
use Rattle.core_steps.specs.declared.job_state.JobState.{JobState}

-- what contracts see of an open job: its query, and the states of its workers
pub record JobValue (K V Q P : Type 0) : Type 0 where
  pub query : Q
  pub worker_states : List (WorkerValue K V P)

module _ {K V Q P : Type 0} where
  -- an open job, under its number
  abbrev pub job_state_of : JobState K V Q P → ℕ × JobValue K V Q P
  job_state_of p = (p.number, record { query = arc_value p.query; worker_states = p.board })

  -- the open jobs, each under its number
  abbrev pub job_states_of : List (JobState K V Q P) → Map ℕ (JobValue K V Q P)
  job_states_of ps = map job_state_of ps

  -- the board of an open job, under its number
  abbrev pub shown : ℕ × JobValue K V Q P → ℕ × Board
  shown x = (x.0, board x.1.worker_states)

  -- the boards of the open jobs
  abbrev pub boards_of : Map ℕ (JobValue K V Q P) → Map ℕ Board
  boards_of m = map shown m

  -- the parts of the workers of an open job, under its number
  abbrev pub parts_shown : ℕ × JobValue K V Q P → ℕ × List P
  parts_shown x = (x.0, state_parts x.1.worker_states)

  -- the parts of the workers of all open jobs
  abbrev pub all_parts : Map ℕ (JobValue K V Q P) → Map ℕ (List P)
  all_parts m = map parts_shown m

  -- the job of the number stands at this place
  pub record IsPlaceOf (ps : List (JobState K V Q P)) (n place : ℕ) : Type 0 where
    pub inside : place < length ps
    pub number : option_map (λ p. p.number) (slice_get ps place) ≡ Some n

  -- the core of a machine and its open jobs
  abbrev pub core_of : State K V Q → Map ℕ (JobValue K V Q P) → ℕ → ℕ → CoreState K V Q
  core_of s job_states workers grain = record { machine = s; boards = boards_of job_states; workers = workers; grain = grain }

  -- the same with the parts of the workers
  abbrev pub value_of : State K V Q → Map ℕ (JobValue K V Q P) → ℕ → ℕ → CoreValue K V Q P
  value_of s job_states workers grain = record { state = core_of s job_states workers grain; parts = all_parts job_states }

module _ {K V Q P : Type 0} (R : K → K → Ordering) (path : K → ℕ) (answers : Q → Map K V → P → Type 0) (ready : Q → Type 0) where
  -- these are the states of the job's workers: they are of its query and its frozen map, and the query may be called on every pair
  pub record HasWorkerStates (job : Job K V Q) (job_state : JobValue K V Q P) : Type 0 where
    pub query : job_state.query ≡ job.query
    pub can : ready job_state.query
    pub worker_states : IsJobOn R path (answers job_state.query) job.frozen job_state.worker_states

  -- the same where there is a job; else there are no states
  abbrev pub Fits : Option (Job K V Q) → Option (JobValue K V Q P) → Type 0
  Fits (Some job) (Some job_state) = HasWorkerStates job job_state
  Fits None None = Unit {0}
  Fits _ _ = ⊥

  -- the workers of each open job have their states, and there are no others
  pub record IsWhole (s : State K V Q) (job_states : Map ℕ (JobValue K V Q P)) (workers grain : ℕ) : Type 0 where
    pub core : IsCore (core_of s job_states workers grain)
    pub sorted : IsMap nat_cmp job_states
    pub fits : (j : ℕ) → Fits (job_at s j) (value_at nat_cmp job_states j)
