use Rattle.handles.specs.Views.{machine}
use Rattle.handles.proofs.Runs.{step_of}
use Rattle.handles.proofs.laws.law_of_answers.Goals as goal

pub returns : goal.returns
returns g c = λ s t r answer had_memory step. step_of (machine g.K.Ord.cmp g.V.PartialEq.eq g.Q.Asks.target_of g.Q.Asks.answered) s r answer t had_memory step
