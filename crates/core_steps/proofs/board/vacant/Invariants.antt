use Rattle.std.proofs.Common.{◌≤◌, ◌-◌, length}
use Rattle.std.specs.Prelude.{All}
use Rattle.worker_states.specs.WorkerValues.{IsVacant}
use Rattle.core_steps.proofs.board.vacant.Given as goal

abbrev pub invariant-worker_states : goal.invariant-worker_states
invariant-worker_states g l = record {
  count : length l.worker_states.items ≤ l.workers;
  vacant : All (IsVacant (g.B.Bulk.answers l.bulk)) l.worker_states.items;
}

abbrev pub decreases-worker_states : goal.decreases-worker_states
decreases-worker_states g l = l.workers - length l.worker_states.items
