use Rattle.handles.specs.Views.{request_of}
use Rattle.tests_handles_memory.proofs.CallsKeep.{all_kept_by_refusal}
use Rattle.tests_handles_memory.proofs.tests.laws.refused.Goals as goal

pub returns : goal.returns
returns c = all_kept_by_refusal _ c.law_of_answers.ensures c.law_of_refusals.ensures c.args.table.now c.serve.new.self (request_of c.args.call) c.serve.result c.serve.ensures.step
