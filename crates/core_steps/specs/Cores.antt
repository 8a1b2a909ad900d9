-- The core: the machine of handles, with a board for each open job. A client's step is the machine's; a worker's step is the board's.
use Rattle.std.specs.Prelude.{◌≡◌, ℕ, ◌<◌, Bool, not, nat_le, [], ◌∷◌, length, Option, Some, None, is_some, unwrap_or, option_map, IsSomeAnd}
use Rattle.std.specs.List.{list_any}
use Rattle.std.specs.Ordering.{nat_cmp}
use Rattle.versions.specs.Map.{Map, value_at, with_pair, without}
use Rattle.versions.specs.declared.refusal.Refusal.{Refusal}
use Rattle.versions.specs.declared.refusal.Refusal.TheVariants.{NoJob, NoWorker}
use Rattle.handles.specs.declared.limits.Limits.{Limits}
use Rattle.handles.specs.Machine.{Kind, State, Request, finish, abandon, Outcome, made, frozen, finished, unfinished, Step, job_at, first_of, nothing}
use Rattle.iter.specs.declared.interval.Interval.{Interval}
use Rattle.iter.specs.Intervals.{whole, Tile, part, parts}
use Rattle.splitter.specs.Cuts.{cut_point}
use Rattle.worker_states.specs.Boards.{Board, worker, first_board, all_worked, Move, mover, named_by, MoveResult, moved, tells_settled, TellsTruly}

-- what a core keeps: the machine, the board of each open job, the number of workers, and the grain
pub record CoreState (K V Q : Type 0) : Type 0 where
  pub machine : State K V Q
  pub boards : Map ℕ Board
  pub workers : ℕ
  pub grain : ℕ

-- what a core may be asked: a client's request, or a worker's move on a job
pub data Asked (K V Q : Type 0) : Type 0 where
  of_client : Request K V Q → Asked K V Q
  of_worker : ℕ → Move → Asked K V Q

-- what a core answers: a client's outcome; what a worker's move is answered, or why it is refused
pub data CoreOutcome (K V B : Type 0) : Type 0 where
  to_client : Outcome K V B → CoreOutcome K V B
  to_worker : MoveResult → CoreOutcome K V B
  no_move : Refusal → CoreOutcome K V B

-- what it takes to divide a map among workers: the path words of its keys, and when the pairs of a part decide a query
pub record Division (K V Q : Type 0) : Type 1 where
  pub path : K → ℕ
  pub Decides : Q → Map K V → Type 0

-- a core with no handles and no jobs
abbrev pub new_core : {K V Q : Type 0} → Limits → ℕ → ℕ → CoreState K V Q
new_core limits workers grain = record { machine = nothing limits; boards = []; workers = workers; grain = grain }

module _ {K V Q : Type 0} where
  -- the board of an open job
  abbrev pub board_of : CoreState K V Q → ℕ → Board
  board_of s j = unwrap_or (value_at nat_cmp s.boards j) []

  -- the map that an open job froze
  abbrev pub frozen_map : CoreState K V Q → ℕ → Map K V
  frozen_map s j = unwrap_or (option_map (λ job. job.frozen) (job_at s.machine j)) []

  -- why a worker's move is refused, if it is: no open job has the number; a worker's number is not below the number of workers
  abbrev pub refusal_of : CoreState K V Q → ℕ → Move → Option Refusal
  refusal_of s j x =
      first_of
      ((not (is_some (job_at s.machine j)), NoJob)
      ∷ (list_any (λ w. nat_le s.workers w) (named_by x), NoWorker)
      ∷ [])

  -- the boards after a client's step: a freeze adds the first board of its job, and the end of a job takes its board away
  abbrev pub boards_after : {B : Type 0} → CoreState K V Q → Request K V Q → Outcome K V B → Map ℕ Board
  boards_after s r (frozen j m) = with_pair nat_cmp s.boards j (first_board s.workers)
  boards_after s (finish j) (finished b) = without nat_cmp s.boards j
  boards_after s (abandon j) made = without nat_cmp s.boards j
  boards_after s r o = s.boards

module _ {K V Q : Type 0} (division : Division K V Q) where
  -- the part of an open job's frozen map whose positions lie in an interval
  abbrev pub frozen_part : CoreState K V Q → ℕ → Interval → Map K V
  frozen_part s j i = part division.path (frozen_map s j) i

  -- the pairs of an open job's frozen map that a worker has worked
  abbrev pub worked_part : CoreState K V Q → ℕ → ℕ → Map K V
  worked_part s j w = parts division.path (frozen_map s j) (worker (board_of s j) w).worked

  -- the pairs that a worker has worked decide the query of the job, which is open
  abbrev pub IsSettled : CoreState K V Q → ℕ → ℕ → Type 0
  IsSettled s j w = IsSomeAnd (job_at s.machine j) (λ job. division.Decides job.query (worked_part s j w))

  -- a worker's move on an open job, by the cut points and the sizes of the parts of the frozen map
  abbrev pub moved_job : CoreState K V Q → ℕ → Move → Bool → MoveResult × Board
  moved_job s j x settled = moved (λ i. cut_point division.path (frozen_map s j) i s.grain) (λ i. length (frozen_part s j i)) settled (board_of s j) x

  -- a worker's step: the board's, and what it says of settling is true
  pub record WorkerMoves (s : CoreState K V Q) (j : ℕ) (x : Move) (y : MoveResult) (t : CoreState K V Q) : Type 0 where
    pub told : y ≡ (moved_job s j x (tells_settled y)).0
    pub left : t ≡ record s { boards = with_pair nat_cmp s.boards j (moved_job s j x (tells_settled y)).1 }
    pub truly : TellsTruly y (IsSettled t j (mover x))

  -- a job is unfinished: the worked intervals do not tile, and for no worker do the pairs that it has worked decide the query
  pub record IsUnfinished (s : CoreState K V Q) (j : ℕ) : Type 0 where
    pub untiled : Tile (all_worked (board_of s j)) whole → ⊥
    pub unsettled : (w : ℕ) → w < s.workers → IsSettled s j w → ⊥

  -- a finish of an open job is answered as unfinished exactly where the job is
  abbrev pub IsExact : {B : Type 0} → CoreState K V Q → Request K V Q → Outcome K V B → Type 0
  IsExact s (finish j) unfinished = IsUnfinished s j
  IsExact s (finish j) (finished b) = IsUnfinished s j → ⊥
  IsExact s r o = Unit {0}

module _ {K V Q A B : Type 0} (kind : Kind K V Q A B) (division : Division K V Q) where
  -- one step: a client's is a step of the machine, and a worker's leaves the machine as it is
  abbrev pub CoreStep : CoreState K V Q → Asked K V Q → CoreOutcome K V B → CoreState K V Q → Type 0
  CoreStep s (of_client r) (to_client o) t = (m : State K V Q) × Step kind s.machine r o m × IsExact division s r o × (t ≡ record s { machine = m; boards = boards_after s r o })
  CoreStep s (of_worker j x) (to_worker y) t = (refusal_of s j x ≡ None) × WorkerMoves division s j x y t
  CoreStep s (of_worker j x) (no_move e) t = (refusal_of s j x ≡ Some e) × (t ≡ s)
  CoreStep s _ _ t = ⊥
