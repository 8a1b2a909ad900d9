use Rattle.handles.specs.Views.{machine}
use Rattle.tests_handles_memory.proofs.CallsKeep.{open_after_freeze}
use Rattle.tests_handles_memory.proofs.tests.laws.freeze.Goals as goal

pub returns : goal.returns
returns g c = open_after_freeze (machine g.K.Ord.cmp g.V.PartialEq.eq g.Q.Asks.target_of g.Q.Asks.answered) c.law_of_freezes.ensures c.args.table.now c.freeze.new.self c.args.handle c.in_ok-try_clone.field-0.value c.args.query.now.value c.in_ok-try_clone.ensures c.freeze.result c.freeze.ensures.step
