use Rattle.test_queries.proofs.Ready.{always_ready}
use Rattle.test_clients.proofs.questions.worked.Goals as goal

pub work-requires : goal.work-requires
work-requires c = always_ready (λ x. tt) (λ x. tt) (λ x. tt) (λ x. tt) c.args.query.now
