-- How what the code answers appears to the board.
use Rattle.worker_states.specs.Boards.{MoveResult, took, cut, uncut, done, idle}
use Rattle.worker_states.specs.declared.progress.Progress.{Progress}
use Rattle.worker_states.specs.declared.progress.Progress.TheVariants.{Took, Cut, Whole, Worked, Idle}

-- what a worker's move was answered, as the board answers it
abbrev pub move_result : Progress → MoveResult
move_result (Took lo hi) = took lo hi
move_result (Cut lo mid hi) = cut lo mid hi
move_result Whole = uncut
move_result (Worked lo hi n settled) = done lo hi n settled
move_result Idle = idle
