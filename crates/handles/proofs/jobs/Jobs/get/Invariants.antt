use Rattle.std.proofs.Common.{◌≡◌, drop}
use Rattle.std.specs.Ordering.{nat_cmp}
use Rattle.versions.specs.Map.{value_at}
use Rattle.handles.specs.Jobs.{jobs_of}
use Rattle.handles.proofs.jobs.Jobs.get.Given as goal

-- the job is among those that are left
abbrev pub invariant-loop-job : goal.invariant-loop-job
invariant-loop-job g l = value_at nat_cmp (jobs_of (drop l.job-index l.job-items)) l.number ≡ value_at nat_cmp (jobs_of l.job-items) l.number
