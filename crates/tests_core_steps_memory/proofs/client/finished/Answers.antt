use Rattle.core_steps.specs.Queries.{divided}
use Rattle.tests_core_steps_memory.proofs.ClientSteps.{finish_returns}
use Rattle.tests_core_steps_memory.proofs.client.finished.Goals as goal

pub returns-in-Answer : goal.returns-in-Answer
returns-in-Answer g c =
    finish_returns g.K.Ord.cmp g.V.PartialEq.eq g.Q.Asks.target_of g.Q.Asks.answered (divided g.K.PathKey.path_of g.Q.Bulk.decides)
    c.args.core.now c.step.new.self c.args.job c.in-Answer.answer c.in_ok-answer.field-0 c.in-Answer.is c.in_ok-answer.ensures.step
