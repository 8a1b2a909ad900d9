use Rattle.handles.specs.Machine.{job_at}
use Rattle.test_tables.proofs.Parts.{answers_job}
use Rattle.test_tables.proofs.steps.close.Goals as goal

pub finish-requires : goal.finish-requires
finish-requires g c = answers_job g.Q.Bulk.answers (job_at c.args.table.now c.args.job) c.args.part c.requires
