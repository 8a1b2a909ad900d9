-- What is true of every run of a core.
use Rattle.std.specs.Prelude.{◌≡◌, ◌↔◌, ℕ, ◌<◌, Bool, All, List, [], length, true, is_some}
use Rattle.std.specs.declared.cmp.Ordering.{Ordering}
use Rattle.versions.specs.Map.{Map}
use Rattle.handles.specs.Machine.{Kind, Run, job_at}
use Rattle.iter.specs.declared.interval.Interval.{Interval}
use Rattle.splitter.specs.Cuts.{cut_point}
use Rattle.iter.specs.Intervals.{whole, AreApart, Tile, parts}
use Rattle.worker_states.specs.Boards.{Board, Move, MoveResult, all_worked, moved, named_by}
use Rattle.core_steps.specs.Cores.{CoreState, Asked, CoreOutcome, Division, CoreStep, board_of, frozen_map}
use Rattle.core_steps.specs.Traces.{client_requests, client_outcomes, covered, CoreRun}
use Rattle.worker_states.specs.WorkerValues.{WorkerValue, IsJobOn, Leaves, Works, splitting_move, stealing_move, taking_move}
use Rattle.core_steps.specs.Invariants.{IsBoard, IsCore, waiting}

module _ {K V Q A B : Type 0} (kind : Kind K V Q A B) (division : Division K V Q) where
  -- what clients see of a run of a core is a run of the machine
  abbrev pub RunsAreMachineRuns : Type 0
  RunsAreMachineRuns =
      (s t : CoreState K V Q) (xs : List (Asked K V Q)) (ys : List (CoreOutcome K V B))
      → CoreRun kind division s xs ys t → Run kind s.machine (client_requests xs) (client_outcomes ys) t.machine

  -- every step keeps what is true of a core
  abbrev pub StepsKeepCores : Type 0
  StepsKeepCores =
      (s t : CoreState K V Q) (x : Asked K V Q) (y : CoreOutcome K V B)
      → IsCore s → CoreStep kind division s x y t → IsCore t

  -- no position of a job is worked twice, whatever its number stands for
  abbrev pub NoneWorkedTwice : Type 0
  NoneWorkedTwice =
      (s t : CoreState K V Q) (xs : List (Asked K V Q)) (ys : List (CoreOutcome K V B)) (j : ℕ)
      → IsCore s → CoreRun kind division s xs ys t → AreApart (covered j xs ys)

-- the worked intervals of an open job tile all positions exactly where nothing waits and nothing is held
abbrev pub TileWhereNoneWaits : Type 0 → Type 0 → Type 0 → Type 0
TileWhereNoneWaits K V Q =
    (s : CoreState K V Q) (j : ℕ)
    → IsCore s → is_some (job_at s.machine j) ≡ true → Tile (all_worked (board_of s j)) whole ↔ (waiting (board_of s j) ≡ [])

-- where the worked intervals of a job tile all positions, their pairs are the map that it froze
abbrev pub TiledIsWhole : {K : Type 0} → Type 0 → Type 0 → (K → ℕ) → Type 0
TiledIsWhole {K} V Q path =
    (s : CoreState K V Q) (j : ℕ)
    → Tile (all_worked (board_of s j)) whole → parts path (frozen_map s j) (all_worked (board_of s j)) ≡ frozen_map s j

-- a move that names none but workers of a board leaves a board of as many workers
abbrev pub MovesKeepBoards : {K : Type 0} → Type 0 → (K → ℕ) → Type 0
MovesKeepBoards {K} V path =
    (m : Map K V) (grain workers : ℕ) (size : Interval → ℕ) (settled : Bool) (b : Board) (x : Move)
    → All (λ w. w < length b) (named_by x) → IsBoard workers b → IsBoard workers (moved (λ i. cut_point path m i grain) size settled b x).1

module _ {K V P : Type 0} (R : K → K → Ordering) (path : K → ℕ) (answers : Map K V → P → Type 0) (Decides : Map K V → Type 0) where
  -- each worker's move keeps what is true of the states of a job's workers
  pub record MovesKeepJobs : Type 0 where
    pub takes : (m : Map K V) (ds es : List (WorkerValue K V P)) (y : MoveResult) (w : ℕ) → w < length ds → Leaves ds es y (taking_move ds w) → IsJobOn R path answers m ds → IsJobOn R path answers m es
    pub steals : (m : Map K V) (ds es : List (WorkerValue K V P)) (y : MoveResult) (w from : ℕ) → w < length ds → from < length ds → Leaves ds es y (stealing_move ds w from) → IsJobOn R path answers m ds → IsJobOn R path answers m es
    pub splits : (m : Map K V) (grain : ℕ) (ds es : List (WorkerValue K V P)) (y : MoveResult) (w : ℕ) → w < length ds → Leaves ds es y (splitting_move (λ i. cut_point path m i grain) ds w) → IsJobOn R path answers m ds → IsJobOn R path answers m es
    pub works : (m : Map K V) (ds es : List (WorkerValue K V P)) (y : MoveResult) (w : ℕ) → w < length ds → Works R path answers m Decides ds w y es → IsJobOn R path answers m ds → IsJobOn R path answers m es
