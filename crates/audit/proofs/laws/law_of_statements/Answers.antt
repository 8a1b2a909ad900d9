use Rattle.audit.proofs.LegalRuns.{statements_may_be_asked}
use Rattle.audit.proofs.laws.law_of_statements.Goals as goal

pub returns : goal.returns
returns c = statements_may_be_asked
