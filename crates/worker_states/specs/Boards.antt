-- The board of a job: what waits, what is held and what was worked, worker by worker; and what a worker's move does to it.
use Rattle.std.specs.Prelude.{ℕ, ◌-◌, Bool, false, List, [], ◌∷◌, ◌++◌, length, take, drop, replicate, flat_map, Option, Some, None, option_to_list, slice_get, slice_index_or, slice_set, MatchBool}
use Rattle.iter.specs.declared.interval.Interval.{Interval}
use Rattle.iter.specs.Intervals.{whole}

-- the intervals that wait in a worker's queue, oldest first; the one that it holds, if any; and those that it has worked
pub record Worker : Type 0 where
  pub queue : List Interval
  pub held : Option Interval
  pub worked : List Interval

-- the workers of a job, in order of their numbers
abbrev pub Board : Type 0
Board = List Worker

-- what a worker may do: take the newest interval of its queue, steal the oldest interval of another's queue, split what it holds, work what it holds
pub data Move : Type 0 where
  taking : ℕ → Move
  stealing : ℕ → ℕ → Move
  splitting : ℕ → Move
  working : ℕ → Move

-- what a move is answered; that of a worked interval has its number of pairs, and whether the worker's part is settled
pub data MoveResult : Type 0 where
  took : ℕ → ℕ → MoveResult
  cut : ℕ → ℕ → ℕ → MoveResult
  uncut : MoveResult
  done : ℕ → ℕ → ℕ → Bool → MoveResult
  idle : MoveResult

-- 1. Boards.
-- a worker with nothing
abbrev pub nobody : Worker
nobody = record { queue = []; held = None; worked = [] }

-- the board at a freeze: the whole interval waits for worker 0
abbrev pub first_board : ℕ → Board
first_board workers = slice_set (replicate workers nobody) 0 (record nobody { queue = whole ∷ [] })

-- the worker of a number
abbrev pub worker : Board → ℕ → Worker
worker b w = slice_index_or b w nobody

-- the board where worker w holds this
abbrev pub with_held : Board → ℕ → Option Interval → Board
with_held b w i = slice_set b w (record (worker b w) { held = i })

-- the board where these wait for worker w
abbrev pub with_queue : Board → ℕ → List Interval → Board
with_queue b w is = slice_set b w (record (worker b w) { queue = is })

-- the board where worker w has worked these
abbrev pub with_worked : Board → ℕ → List Interval → Board
with_worked b w is = slice_set b w (record (worker b w) { worked = is })

-- all intervals of a worker
abbrev pub intervals_of : Worker → List Interval
intervals_of x = x.queue ++ option_to_list x.held ++ x.worked

-- all intervals of a board
abbrev pub intervals : Board → List Interval
intervals b = flat_map intervals_of b

-- all intervals that were worked
abbrev pub all_worked : Board → List Interval
all_worked b = flat_map (λ x. x.worked) b

module _ {X : Type 0} where
  -- what came last into a queue
  abbrev pub newest : List X → Option X
  newest xs = slice_get xs (length xs - 1)

  -- a queue without what came last
  abbrev pub without_newest : List X → List X
  without_newest xs = take (length xs - 1) xs

  -- what came first into a queue
  abbrev pub oldest : List X → Option X
  oldest xs = slice_get xs 0

  -- a queue without what came first
  abbrev pub without_oldest : List X → List X
  without_oldest xs = drop 1 xs

-- 2. Moves: what each is answered, and the board afterwards.
-- a worker that holds none gets the newest interval of its queue
abbrev pub taken : Board → ℕ → Option Interval → Option Interval → MoveResult × Board
taken b w None (Some i) = (took i.lo i.hi, with_held (with_queue b w (without_newest (worker b w).queue)) w (Some i))
taken b w held newest = (idle, b)

-- a worker that holds none gets the oldest interval of another's queue
abbrev pub stolen : Board → ℕ → ℕ → Option Interval → Option Interval → MoveResult × Board
stolen b w from None (Some i) = (took i.lo i.hi, with_held (with_queue b from (without_oldest (worker b from).queue)) w (Some i))
stolen b w from held oldest = (idle, b)

-- where there is a cut point, the lower side stays held and the upper one is put last in the queue
abbrev pub split_at : Board → ℕ → Interval → Option ℕ → MoveResult × Board
split_at b w i (Some mid) = (cut i.lo mid i.hi, with_held (with_queue b w ((worker b w).queue ++ record { lo = mid; hi = i.hi } ∷ [])) w (Some (record { lo = i.lo; hi = mid })))
split_at b w i None = (uncut, b)

-- a worker splits what it holds, by the cut point that an interval has
abbrev pub split : (Interval → Option ℕ) → Board → ℕ → Option Interval → MoveResult × Board
split point b w (Some i) = split_at b w i (point i)
split point b w None = (idle, b)

-- a worker works what it holds, by the number of pairs that an interval has; the answer says whether its part is settled then
abbrev pub work : (Interval → ℕ) → Bool → Board → ℕ → Option Interval → MoveResult × Board
work size settled b w (Some i) = (done i.lo i.hi (size i) settled, with_held (with_worked b w ((worker b w).worked ++ i ∷ [])) w None)
work size settled b w None = (idle, b)

-- what a move is answered, and the board afterwards
abbrev pub moved : (Interval → Option ℕ) → (Interval → ℕ) → Bool → Board → Move → MoveResult × Board
moved point size settled b (taking w) = taken b w (worker b w).held (newest (worker b w).queue)
moved point size settled b (stealing w from) = stolen b w from (worker b w).held (oldest (worker b from).queue)
moved point size settled b (splitting w) = split point b w (worker b w).held
moved point size settled b (working w) = work size settled b w (worker b w).held

-- the worker that moves
abbrev pub mover : Move → ℕ
mover (taking w) = w
mover (stealing w from) = w
mover (splitting w) = w
mover (working w) = w

-- the workers that a move names
abbrev pub named_by : Move → List ℕ
named_by (taking w) = w ∷ []
named_by (stealing w from) = w ∷ from ∷ []
named_by (splitting w) = w ∷ []
named_by (working w) = w ∷ []

-- whether an answer says that the worker's part is settled
abbrev pub tells_settled : MoveResult → Bool
tells_settled (done lo hi n settled) = settled
tells_settled _ = false

-- what an answer says of settling is true
abbrev pub TellsTruly : MoveResult → Type 0 → Type 0
TellsTruly (done lo hi n settled) Decided = MatchBool settled Decided (Decided → ⊥)
TellsTruly _ Decided = Unit {0}
