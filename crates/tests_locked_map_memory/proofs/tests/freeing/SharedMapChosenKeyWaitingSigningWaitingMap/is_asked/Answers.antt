use Rattle.test_queries.proofs.Ready.{always_ready}
use Rattle.tests_locked_map_memory.proofs.tests.freeing.SharedMapChosenKeyWaitingSigningWaitingMap.is_asked.Goals as goal

-- the closure that makes values may be called on every pair
pub bulk-answer-requires-clause-ready : goal.bulk-answer-requires-clause-ready
bulk-answer-requires-clause-ready g c = λ lifetimes lives. always_ready (λ x. tt) (λ x. tt) (λ x. tt) (λ x. tt) c.args.query.value
