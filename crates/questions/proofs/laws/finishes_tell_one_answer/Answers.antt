use Rattle.questions.proofs.OneStep.{tell_one}
use Rattle.questions.proofs.laws.finishes_tell_one_answer.Goals as goal

pub returns : goal.returns
returns c = tell_one
