-- A board as the code keeps it: with the pieces of its intervals, and the parts of what was worked.
use Rattle.std.specs.Prelude.{◌≡◌, ℕ, ◌≤◌, Bool, All, IfSome, List, [], ◌∷◌, ◌++◌, length, map, Option, Some, None, option_map, option_to_list, slice_set}
use Rattle.std.specs.declared.cmp.Ordering.{Ordering}
use Rattle.trie_shape.specs.Map.{Map, IsMap}
use Rattle.versions.specs.declared.version.TheConstants.{MOST_PAIRS}
use Rattle.iter.specs.declared.interval.Interval.{Interval}
use Rattle.iter.specs.Intervals.{AreApart, part, parts}
use Rattle.splitter.specs.Portion.{Portion}
use Rattle.splitter.specs.Cuts.{cut_point}
use Rattle.worker_states.specs.Boards.{Move, working, Worker, Board, worker, intervals, newest, without_newest, oldest, taken, stolen, split, work, MoveResult, took, cut, uncut, done, idle, tells_settled, TellsTruly}

-- what contracts see of a worker's state: the pieces that wait, oldest first; the piece that is held, if any; the intervals that were worked, and the part of their pairs
pub record WorkerValue (K V P : Type 0) : Type 0 where
  pub queue : List (Portion K V)
  pub held : Option (Portion K V)
  pub part : P
  pub worked : List Interval

-- the interval of a piece
abbrev pub interval_of : {K V : Type 0} → Portion K V → Interval
interval_of p = p.interval

module _ {K V P : Type 0} where
  -- what a board has of a worker
  abbrev pub worker_of : WorkerValue K V P → Worker
  worker_of d = record { queue = map interval_of d.queue; held = option_map interval_of d.held; worked = d.worked }

  -- the board of some workers' states
  abbrev pub board : List (WorkerValue K V P) → Board
  board ds = map worker_of ds

  -- a worker's part, with the intervals that it has worked
  abbrev pub result_of : WorkerValue K V P → P × List Interval
  result_of d = (d.part, d.worked)

  -- the same of each worker
  abbrev pub results : List (WorkerValue K V P) → List (P × List Interval)
  results ds = map result_of ds

  -- the parts of the workers
  abbrev pub state_parts : List (WorkerValue K V P) → List P
  state_parts ds = map (λ d. d.part) ds

  -- a worker's state where the newest piece is taken, where none is held and there is one
  abbrev pub state_taken : WorkerValue K V P → Option (Portion K V) → Option (Portion K V) → MoveResult × WorkerValue K V P
  state_taken d None (Some p) = (took p.interval.lo p.interval.hi, record d { queue = without_newest d.queue; held = Some p })
  state_taken d held newest = (idle, d)

  -- the same of the worker's own queue and piece
  abbrev pub state_take : WorkerValue K V P → MoveResult × WorkerValue K V P
  state_take d = state_taken d d.held (newest d.queue)

  -- the worker's state where a piece is cut at a position: the lower side is held, and the upper one came last into the queue
  abbrev pub state_cut : WorkerValue K V P → Portion K V → Option ℕ → MoveResult × WorkerValue K V P
  state_cut d p (Some mid) = (cut p.interval.lo mid p.interval.hi, record d { queue = d.queue ++ record p { interval = record { lo = mid; hi = p.interval.hi } } ∷ []; held = Some (record p { interval = record { lo = p.interval.lo; hi = mid } }) })
  state_cut d p None = (uncut, d)

  -- the same of what is held, at its own cut point
  abbrev pub state_split_of : (K → ℕ) → ℕ → WorkerValue K V P → Option (Portion K V) → MoveResult × WorkerValue K V P
  state_split_of path grain d (Some p) = state_cut d p (cut_point path p.map p.interval grain)
  state_split_of path grain d None = (idle, d)

  -- the same of the piece that the worker holds
  abbrev pub state_split : (K → ℕ) → ℕ → WorkerValue K V P → MoveResult × WorkerValue K V P
  state_split path grain d = state_split_of path grain d d.held

  -- the pieces of a worker's state are of this map
  pub record HasPieces (m : Map K V) (d : WorkerValue K V P) : Type 0 where
    pub queue : All (λ p. p.map ≡ m) d.queue
    pub held : IfSome d.held (λ p. p.map ≡ m)

  -- what a worker's move comes to: its result, the board that it leaves; the pieces are of the same map as before, and each part stays with its intervals
  pub record Leaves (old new : List (WorkerValue K V P)) (told : MoveResult) (move : MoveResult × Board) : Type 0 where
    pub told_is : told ≡ move.0
    pub board_is : board new ≡ move.1
    pub pieces : (m : Map K V) → All (HasPieces m) old → All (HasPieces m) new
    pub parts_stay : results new ≡ results old

  -- the move of a worker that takes, steals, splits or works, on the board of some workers' states
  abbrev pub taking_move : List (WorkerValue K V P) → ℕ → MoveResult × Board
  taking_move ds w = taken (board ds) w (worker (board ds) w).held (newest (worker (board ds) w).queue)

  -- worker w steals the oldest interval of another's queue
  abbrev pub stealing_move : List (WorkerValue K V P) → ℕ → ℕ → MoveResult × Board
  stealing_move ds w from = stolen (board ds) w from (worker (board ds) w).held (oldest (worker (board ds) from).queue)

  -- worker w splits what it holds
  abbrev pub splitting_move : (Interval → Option ℕ) → List (WorkerValue K V P) → ℕ → MoveResult × Board
  splitting_move point ds w = split point (board ds) w (worker (board ds) w).held

  -- worker w works what it holds
  abbrev pub working_move : (Interval → ℕ) → Bool → List (WorkerValue K V P) → ℕ → MoveResult × Board
  working_move size settled ds w = work size settled (board ds) w (worker (board ds) w).held

-- a worker's state where nothing waits, nothing is held and nothing was worked, and whose part answers the empty map
pub record IsVacant {K V P : Type 0} (answers : Map K V → P → Type 0) (d : WorkerValue K V P) : Type 0 where
  pub queue : d.queue ≡ []
  pub held : d.held ≡ None
  pub worked : d.worked ≡ []
  pub part : answers [] d.part

module _ {K V P : Type 0} (R : K → K → Ordering) (path : K → ℕ) (answers : Map K V → P → Type 0) (m : Map K V) where
  -- the part answers the pairs of the intervals
  abbrev pub HasPart : P × List Interval → Type 0
  HasPart x = answers (parts path m x.1) x.0

  -- the workers' states of a job on the map: its pieces are of the map, its parts answer what was worked, and no two of its intervals share a position
  pub record IsJobOn (ds : List (WorkerValue K V P)) : Type 0 where
    pub sorted : IsMap R m
    pub few : length m ≤ MOST_PAIRS
    pub pieces : All (HasPieces m) ds
    pub answered : All HasPart (results ds)
    pub apart : AreApart (intervals (board ds))

  -- a worker may work what it holds: its pieces are of the map, its part answers what it has worked, and shares no position with what it holds
  pub record CanWork (d : WorkerValue K V P) : Type 0 where
    pub sorted : IsMap R m
    pub few : length m ≤ MOST_PAIRS
    pub pieces : HasPieces m d
    pub answered : HasPart (result_of d)
    pub apart : AreApart (d.worked ++ option_to_list (option_map interval_of d.held))

  -- it has worked a piece
  pub record HasWorked (Decides : Map K V → Type 0) (d : WorkerValue K V P) (p : Portion K V) (told : MoveResult) (e : WorkerValue K V P) : Type 0 where
    pub told_is : told ≡ done p.interval.lo p.interval.hi (length (part path m p.interval)) (tells_settled told)
    pub left : e ≡ record d { held = None; part = e.part; worked = d.worked ++ p.interval ∷ [] }
    pub answered : HasPart (result_of e)
    pub truly : TellsTruly told (Decides (parts path m e.worked))

  -- the same of what is held, if any
  abbrev pub WorksHeld : (Map K V → Type 0) → WorkerValue K V P → Option (Portion K V) → MoveResult → WorkerValue K V P → Type 0
  WorksHeld Decides d None told e = (told ≡ idle) × (e ≡ d)
  WorksHeld Decides d (Some p) told e = HasWorked Decides d p told e

  -- what a worker that works what it holds comes to
  pub record Works (Decides : Map K V → Type 0) (old : List (WorkerValue K V P)) (w : ℕ) (told : MoveResult) (new : List (WorkerValue K V P)) : Type 0 where
    pub told_is : told ≡ (working_move (λ i. length (part path m i)) (tells_settled told) old w).0
    pub board_is : board new ≡ (working_move (λ i. length (part path m i)) (tells_settled told) old w).1
    pub pieces : All (HasPieces m) new
    pub answered : All HasPart (results new)
    pub truly : TellsTruly told (Decides (parts path m (worker (board new) w).worked))

-- the parts of a job's workers after a move: one that has worked a piece has another part, and the others have theirs
abbrev pub PartsMove : {P : Type 0} → List P → Move → MoveResult → List P → Type 0
PartsMove ps (working w) (done lo hi n settled) qs = (p : _) × (qs ≡ slice_set ps w p)
PartsMove ps x y qs = qs ≡ ps
