use Rattle.audit.proofs.VerdictLemmas.{one_verdict}
use Rattle.audit.proofs.laws.law_of_verdicts.Goals as goal

pub returns : goal.returns
returns c = one_verdict
