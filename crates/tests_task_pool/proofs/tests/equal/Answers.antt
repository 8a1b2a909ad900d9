use Rattle.std.specs.Prelude.{Some}
use Rattle.tests_task_pool.specs.Passing.{passes}
use Rattle.tests_task_pool.proofs.tests.equal.Goals as goal

pub new-requires : goal.new-requires
new-requires c = ((λ k v. passes (Some c.args.value) v), λ k v r is. is)
