use Rattle.handles.specs.Machine.{job_at}
use Rattle.test_tables.proofs.Parts.{answers_job}
use Rattle.tests_handles_memory.proofs.tests.foresight.foreseen_finish.Goals as goal

pub foresee_finish-requires : goal.foresee_finish-requires
foresee_finish-requires g c = answers_job g.Q.Bulk.answers (job_at c.args.table.now c.args.job) c.args.part.now c.requires
