use Rattle.tests_handles_memory.proofs.CallsKeep.{jobs_kept_by_call}
use Rattle.tests_handles_memory.proofs.tests.laws.serve.Goals as goal

pub returns : goal.returns
returns c = jobs_kept_by_call _ c.law_of_answers.ensures c.law_of_open_jobs.ensures c.args.table.now c.serve.new.self c.args.call c.serve.result c.serve.ensures.step
