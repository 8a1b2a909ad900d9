use Rattle.std.proofs.Common.{sym, ◌∙◌}
use Rattle.handles.specs.Machine.{job_at}
use Rattle.test_tables.proofs.Parts.{answers_job}
use Rattle.tests_handles_memory.proofs.tests.foresight.closed_as_foreseen.Goals as goal

pub foresee_finish-requires : goal.foresee_finish-requires
foresee_finish-requires g c = answers_job g.Q.Bulk.answers (job_at c.args.table.now c.args.job) c.args.part c.requires

pub finish-requires : goal.finish-requires
finish-requires g c = answers_job g.Q.Bulk.answers (job_at c.args.table.now c.args.job) c.args.part c.requires

pub returns : goal.returns
returns g c = c.in_ok-foreseen.ensures.told ∙ sym c.in_ok-answer.ensures.told
