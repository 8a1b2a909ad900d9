use Rattle.script.proofs.OneFault.{one_first_fault}
use Rattle.script.proofs.laws.text_has_one_fault.Goals as goal

pub returns : goal.returns
returns c = λ text at place reason other fault fails. one_first_fault 1 _ at place reason other fault fails
