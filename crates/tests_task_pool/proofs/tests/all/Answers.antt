use Rattle.std.specs.Prelude.{None}
use Rattle.tests_task_pool.specs.Passing.{passes}
use Rattle.tests_task_pool.proofs.tests.all.Goals as goal

pub new-requires : goal.new-requires
new-requires c = ((λ k v. passes None v), λ k v r is. is)
