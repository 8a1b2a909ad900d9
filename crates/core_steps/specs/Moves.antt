-- What a worker's move comes to on the workers' states of one job.
use Rattle.std.specs.Prelude.{◌≡◌, ℕ, Bool, List, length, true, false}
use Rattle.std.specs.declared.cmp.Ordering.{Ordering}
use Rattle.trie_shape.specs.Map.{Map}
use Rattle.iter.specs.Intervals.{part, parts}
use Rattle.splitter.specs.Cuts.{cut_point}
use Rattle.worker_states.specs.Boards as boards
use Rattle.worker_states.specs.Boards.{Board, worker, mover, moved, MoveResult, tells_settled, TellsTruly}
use Rattle.worker_states.specs.WorkerValues.{WorkerValue, board, state_parts, IsJobOn}
use Rattle.core_steps.specs.Parts.{PartsMove}
use Rattle.core_steps.specs.declared.moves.Move.{Move}
use Rattle.core_steps.specs.declared.moves.Move.TheVariants.{Take, Steal, Split, Work}

-- the move that a worker is asked for
abbrev pub move_of : Move → boards.Move
move_of (Take w) = boards.taking w
move_of (Steal w from) = boards.stealing w from
move_of (Split w) = boards.splitting w
move_of (Work w) = boards.working w

-- whether a move takes no memory: a piece is taken or stolen
abbrev pub moves_without_memory : boards.Move → Bool
moves_without_memory (boards.taking w) = true
moves_without_memory (boards.stealing w from) = true
moves_without_memory _ = false

module _ {K V P : Type 0} (path : K → ℕ) (m : Map K V) where
  -- the move of a worker, on the board of some workers' states of the map
  abbrev pub move_on : ℕ → List (WorkerValue K V P) → boards.Move → MoveResult → MoveResult × Board
  move_on grain ds x y = moved (λ i. cut_point path m i grain) (λ i. length (part path m i)) (tells_settled y) (board ds) x

module _ {K V P : Type 0} (R : K → K → Ordering) (path : K → ℕ) (answers : Map K V → P → Type 0) (Decides : Map K V → Type 0) (m : Map K V) where
  -- a worker's move on the workers' states of a job: the board's, what it says of settling is true, and the others keep their parts
  pub record MovesTo (grain : ℕ) (old : List (WorkerValue K V P)) (x : boards.Move) (y : MoveResult) (new : List (WorkerValue K V P)) : Type 0 where
    pub told : y ≡ (move_on path m grain old x y).0
    pub left : board new ≡ (move_on path m grain old x y).1
    pub truly : TellsTruly y (Decides (parts path m (worker (board new) (mover x)).worked))
    pub parts : PartsMove (state_parts old) x y (state_parts new)
    pub job : IsJobOn R path answers m new
