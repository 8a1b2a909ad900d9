use Rattle.handles.specs.Views.{machine}
use Rattle.handles.proofs.Keeps.{freezes_open_jobs}
use Rattle.handles.proofs.laws.law_of_freezes.Goals as goal

pub returns : goal.returns
returns g c = freezes_open_jobs (machine g.K.Ord.cmp g.V.PartialEq.eq g.Q.Asks.target_of g.Q.Asks.answered)
