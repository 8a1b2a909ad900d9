use Rattle.handles.specs.Views.{machine}
use Rattle.handles.proofs.Leaves.{foreseen_is_step}
use Rattle.handles.proofs.laws.law_of_foresight.Goals as goal

pub returns : goal.returns
returns g c = foreseen_is_step (machine g.K.Ord.cmp g.V.PartialEq.eq g.Q.Asks.target_of g.Q.Asks.answered)
