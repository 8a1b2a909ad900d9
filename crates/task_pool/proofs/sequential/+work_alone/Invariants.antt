use Rattle.std.proofs.Common.{◌-◌}
use Rattle.task_pool.proofs.sequential.+work_alone.Given as goal

abbrev pub decreases-work_alone : goal.decreases-work_alone
decreases-work_alone g l = l.task.hi - l.task.lo
