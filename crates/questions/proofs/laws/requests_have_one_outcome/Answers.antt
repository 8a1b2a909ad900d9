use Rattle.questions.proofs.OneStep.{one_outcome}
use Rattle.questions.proofs.laws.requests_have_one_outcome.Goals as goal

pub returns : goal.returns
returns c = one_outcome
