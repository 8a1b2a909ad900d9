use Rattle.handles.specs.Views.{machine}
use Rattle.handles.proofs.Keeps.{refusals_keep_all}
use Rattle.handles.proofs.laws.law_of_refusals.Goals as goal

pub returns : goal.returns
returns g c = refusals_keep_all (machine g.K.Ord.cmp g.V.PartialEq.eq g.Q.Asks.target_of g.Q.Asks.answered)
