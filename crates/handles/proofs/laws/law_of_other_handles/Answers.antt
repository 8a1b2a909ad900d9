use Rattle.handles.specs.Views.{machine}
use Rattle.handles.proofs.Keeps.{commands_keep_other_handles}
use Rattle.handles.proofs.laws.law_of_other_handles.Goals as goal

pub returns : goal.returns
returns g c = commands_keep_other_handles (machine g.K.Ord.cmp g.V.PartialEq.eq g.Q.Asks.target_of g.Q.Asks.answered)
