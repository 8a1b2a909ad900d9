use Rattle.handles.specs.Views.{machine}
use Rattle.handles.proofs.Keeps.{others_keep_jobs}
use Rattle.handles.proofs.laws.law_of_open_jobs.Goals as goal

pub returns : goal.returns
returns g c = others_keep_jobs (machine g.K.Ord.cmp g.V.PartialEq.eq g.Q.Asks.target_of g.Q.Asks.answered)
