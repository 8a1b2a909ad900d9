use Rattle.audit.proofs.LegalRuns.{entries_are_lawful}
use Rattle.audit.proofs.laws.law_of_entries.Goals as goal

pub returns : goal.returns
returns c = entries_are_lawful
