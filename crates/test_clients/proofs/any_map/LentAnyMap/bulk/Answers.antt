use Rattle.test_queries.proofs.Ready.{always_ready}
use Rattle.test_clients.proofs.any_map.LentAnyMap.bulk.Goals as goal

-- the closures of the tests may be called on every pair
pub bulk-requires-clause-ready : goal.bulk-requires-clause-ready
bulk-requires-clause-ready g c = λ lifetimes lives. always_ready (λ x. tt) (λ x. tt) (λ x. tt) (λ x. tt) c.args.query.value
