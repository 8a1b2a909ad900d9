use Rattle.audit.proofs.LegalRuns.{runs_are_legal}
use Rattle.audit.proofs.laws.law_of_runs.Goals as goal

pub returns : goal.returns
returns c = runs_are_legal
