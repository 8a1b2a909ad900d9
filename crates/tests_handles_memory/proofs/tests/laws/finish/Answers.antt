use Rattle.handles.specs.Machine.{job_at}
use Rattle.tests_handles_memory.proofs.CallsKeep.{answers_open}
use Rattle.tests_handles_memory.proofs.tests.laws.finish.Goals as goal

pub finish-requires : goal.finish-requires
finish-requires g c = answers_open g.Q.Bulk.answers (job_at c.args.table.now c.args.job) c.args.query.now c.args.view.now c.args.part c.requires.job c.requires.part
