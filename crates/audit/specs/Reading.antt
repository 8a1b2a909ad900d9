-- How far a text was read.
use Rattle.std.specs.Prelude.{◌≡◌, Bool, true, false, ℕ, List, [], ◌∷◌, ◌++◌, length}
use Rattle.questions.specs.Program.{ProgramState}
use Rattle.journal_lines.specs.Lines.{ended, end_line}
use Rattle.journal_text.specs.Entries.{ProgramEntry, entry_lines}
use Rattle.journal_lines.specs.Lines.{lines_in}
use Rattle.audit.specs.Verdicts.{IsLegalJournal}

-- the last line, if it was read
abbrev pub last_if : Bool → ℕ → List (List ℕ)
last_if true n = ended (end_line n) ∷ []
last_if false n = []

-- what was read: the lines of a legal journal that leads to this state, and the last line if it came; and what is left
pub record HasRead (text : List ℕ) (over : Bool) (s : ProgramState) (rest : List ℕ) : Type 0 where
  pub entries : List ProgramEntry
  pub journal : IsLegalJournal entries s
  pub count : s.entries ≡ length entries
  pub lines : lines_in text ≡ entry_lines 0 entries ++ (last_if over (length entries) ++ lines_in rest)
