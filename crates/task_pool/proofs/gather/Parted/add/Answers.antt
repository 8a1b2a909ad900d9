use Rattle.std.proofs.Common.{rules}
use Rattle.task_pool.proofs.gather.Parted.add.Goals as goal
use Rattle.task_pool.proofs.gather.Parted.add.Goals.{in-Ok-Ok, in_default, in_default-2}

pub returns-clause-ends : goal.returns-clause-ends
returns-clause-ends g c = elim c.match-ends.branch [
  | in-Ok-Ok w ↦ search rules
  | in_default w ↦ search rules
  | in_default-2 w ↦ search rules
]

pub returns-clause-partials : goal.returns-clause-partials
returns-clause-partials g c = elim c.match-ends.branch [
  | in-Ok-Ok w ↦ search rules
  | in_default w ↦ search rules
  | in_default-2 w ↦ search rules
]

pub returns-clause-leftover : goal.returns-clause-leftover
returns-clause-leftover g c = elim c.match-ends.branch [
  | in-Ok-Ok w ↦ search rules
  | in_default w ↦ search rules
  | in_default-2 w ↦ search rules
]
