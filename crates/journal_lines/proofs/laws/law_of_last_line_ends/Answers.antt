use Rattle.journal_lines.proofs.NewlineLemmas.{first_line, end_one}
use Rattle.journal_lines.specs.Lines.{end_line}
use Rattle.journal_lines.proofs.laws.law_of_last_line_ends.Goals as goal

pub returns : goal.returns
returns c = λ n rest hn. first_line (end_line n) rest (end_one n hn)
