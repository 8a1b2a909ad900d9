use Rattle.std.proofs.Common.{◌-◌}
use Rattle.task_pool.proofs.worker.WorkerState.+process.Given as goal

abbrev pub decreases-process : goal.decreases-process
decreases-process g l = l.task.hi - l.task.lo
