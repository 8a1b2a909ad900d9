use Rattle.sized_threads.proofs.fork.+jobs.Given as goal

abbrev pub decreases-run_jobs : goal.decreases-run_jobs
decreases-run_jobs g l = l.jobs.len
