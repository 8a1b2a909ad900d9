use Rattle.std.proofs.Common.{true}
use Rattle.tests_task_pool.proofs.tests.pieces.counting.Goals as goal

-- each pair passes
pub new-requires : goal.new-requires
new-requires c = (λ k v. true, λ k v r passed. passed)
