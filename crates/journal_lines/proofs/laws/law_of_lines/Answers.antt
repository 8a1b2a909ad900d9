use Rattle.journal_lines.proofs.LineLemmas.{same_members}
use Rattle.journal_lines.proofs.laws.law_of_lines.Goals as goal

pub returns : goal.returns
returns c = same_members
