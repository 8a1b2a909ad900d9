use Rattle.std.proofs.Common.{true}
use Rattle.bulk_work.specs.Answers.{count}
use Rattle.test_keys.specs.Order.{chosen_cmp}
use Rattle.tests_core_steps_memory.proofs.Sizes.{size_answer}
use Rattle.tests_core_steps_memory.proofs.tests.clients.count_of_all.Goals as goal

-- every pair passes
pub new-requires : goal.new-requires
new-requires c = ((λ k v. true), λ k v r is. is)

pub returns-clause-asks : goal.returns-clause-asks
returns-clause-asks c m a is = size_answer chosen_cmp m a (is (count (λ k v. true)) (λ k v r e. e))
