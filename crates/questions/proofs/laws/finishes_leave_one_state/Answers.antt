use Rattle.questions.proofs.OneStep.{leave_one}
use Rattle.questions.proofs.laws.finishes_leave_one_state.Goals as goal

pub returns : goal.returns
returns c = leave_one
