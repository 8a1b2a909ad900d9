use Rattle.std.proofs.Common.{◌≡◌, drop}
use Rattle.worker_states.specs.WorkerValues.{board}
use Rattle.core_steps.specs.Invariants.{waiting}
use Rattle.core_steps.proofs.collecting.is_done.Given as goal

-- what waits is with the workers that are left
abbrev pub invariant-loop-worker_state : goal.invariant-loop-worker_state
invariant-loop-worker_state g l = waiting (board (drop l.worker_state-index l.worker_states)) ≡ waiting (board l.worker_states)
