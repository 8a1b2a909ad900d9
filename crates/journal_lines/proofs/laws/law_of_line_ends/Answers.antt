use Rattle.journal_lines.proofs.NewlineLemmas.{first_line, line_one}
use Rattle.journal_lines.specs.Lines.{line_of}
use Rattle.journal_lines.proofs.laws.law_of_line_ends.Goals as goal

pub returns : goal.returns
returns c = λ n call reply seat rest hn hs. first_line (line_of n call reply seat) rest (line_one n call reply seat hn hs)
