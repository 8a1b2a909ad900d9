-- The entries of a program's journal, and their lines.
use Rattle.std.specs.Prelude.{ℕ, ℤ, ◌<◌, ◌+◌, List, [], ◌∷◌, IsUtf8}
use Rattle.std.specs.List.{flat_map}
use Rattle.journal.specs.Journals.{Entered}
use Rattle.questions.specs.Queries.{ScriptQuestion}
use Rattle.questions.specs.Program.{ProgramSummary}
use Rattle.script.specs.declared.limits.TheConstants.{MOST_CLIENTS}
use Rattle.journal_lines.specs.Lines.{end_line, ended, line_of}
use Rattle.journal_text.specs.Calls.{IsLawfulRequest, call_text, outcome_text}

-- an entry of the journal of a program
abbrev pub ProgramEntry : Type 0
ProgramEntry = Entered (List ℕ) ℤ ScriptQuestion ProgramSummary

-- the line of the entry of this number
abbrev pub entry_line : ℕ → ProgramEntry → List ℕ
entry_line n e = line_of n (call_text e.request) (outcome_text e.outcome) e.seat

-- the lines of the entries behind that many others, each with its newline
abbrev pub entry_lines : ℕ → List ProgramEntry → List (List ℕ)
entry_lines before [] = []
entry_lines before (e ∷ es) = ended (entry_line (before + 1) e) ∷ entry_lines (before + 1) es

-- the same, and the line behind the last
abbrev pub lines_behind : ℕ → List ProgramEntry → List (List ℕ)
lines_behind before [] = ended (end_line before) ∷ []
lines_behind before (e ∷ es) = ended (entry_line (before + 1) e) ∷ lines_behind (before + 1) es

-- the text of a journal: a line for each entry, in order, and one that says their number
abbrev pub text_of_journal : List ProgramEntry → List ℕ
text_of_journal es = flat_map (λ line. line) (lines_behind 0 es)

-- the seat of the entry is one of the 64, what it asked is in its ranges, and both its texts are text
pub record IsLawfulEntry (e : ProgramEntry) : Type 0 where
  pub seat : e.seat < MOST_CLIENTS
  pub request : IsLawfulRequest e.request
  pub call_is_text : IsUtf8 (call_text e.request)
  pub reply_is_text : IsUtf8 (outcome_text e.outcome)

-- each of the entries is lawful
abbrev pub AreLawful : List ProgramEntry → Type 0
AreLawful [] = Unit {0}
AreLawful (e ∷ es) = IsLawfulEntry e × AreLawful es
