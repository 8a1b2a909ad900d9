use Rattle.handles.specs.Views.{command_of}
use Rattle.tests_handles_memory.proofs.CallsKeep.{others_kept_by_call}
use Rattle.tests_handles_memory.proofs.tests.laws.written.Goals as goal

pub returns : goal.returns
returns c = others_kept_by_call _ c.law_of_answers.ensures c.law_of_other_handles.ensures c.args.table.now c.serve.new.self 1 (command_of c.args.command) c.serve.result c.serve.ensures.step
