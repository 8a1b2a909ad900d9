use Rattle.journal_lines.proofs.LineLemmas.{no_end}
use Rattle.journal_lines.proofs.laws.law_of_last_lines.Goals as goal

pub returns : goal.returns
returns c = no_end
