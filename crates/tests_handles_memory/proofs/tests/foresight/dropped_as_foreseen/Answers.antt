use Rattle.std.proofs.Common.{refl}
use Rattle.handles.specs.Machine.{drop_handle}
use Rattle.handles.specs.Views.{machine}
use Rattle.tests_handles_memory.proofs.CallsKeep.{made_as_foreseen}
use Rattle.tests_handles_memory.proofs.tests.foresight.dropped_as_foreseen.Goals as goal

pub returns : goal.returns
returns g c = made_as_foreseen (machine g.K.Ord.cmp g.V.PartialEq.eq g.Q.Asks.target_of g.Q.Asks.answered) c.law_of_answers.ensures c.law_of_foresight.ensures c.args.table.now c.serve-answer.new.self (drop_handle c.args.handle) c.foresee_serve-foreseen.result c.serve-answer.result refl c.foresee_serve-foreseen.ensures.now (c.serve-answer.ensures.memory refl) c.serve-answer.ensures.step
