use Rattle.std.proofs.Common.{Some}
use Rattle.task_pool.proofs.calls.run_crew_in.Given as goal

-- the map and the grain of this call
abbrev pub ghosts-run_branded-C-OfView : goal.ghosts-run_branded-C-OfView
ghosts-run_branded-C-OfView g a = record { map = a.view.now; grain = a.crew.grain }

-- and its operation
abbrev pub ghosts-run_branded-C-OfBulk : goal.ghosts-run_branded-C-OfBulk
ghosts-run_branded-C-OfBulk g a = record { bulk = Some a.bulk.now }
