use Rattle.script_runs.proofs.LegalTexts.{run_may}
use Rattle.script_runs.proofs.laws.run_has_lawful_entries.Goals as goal

pub returns : goal.returns
returns c = λ script journal text lawful run. c.law_of_entries.ensures journal run.end (run_may c.law_of_statements.ensures script journal text lawful run) run.legal
