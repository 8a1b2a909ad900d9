use Rattle.std.proofs.Common.{◌≡◌, drop}
use Rattle.std.specs.List.{list_any}
use Rattle.handles.specs.Jobs.{jobs_of}
use Rattle.handles.specs.Machine.{is_number}
use Rattle.handles.proofs.jobs.Jobs.reserves.Given as goal

-- a job that reserves the number is among those that are left
abbrev pub invariant-loop-job : goal.invariant-loop-job
invariant-loop-job g l =
    list_any (λ job. is_number (g.Q.Asks.target_of job.1.query) l.number) (jobs_of (drop l.job-index l.job-items))
    ≡ list_any (λ job. is_number (g.Q.Asks.target_of job.1.query) l.number) (jobs_of l.job-items)
