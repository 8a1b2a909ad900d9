-- What a run of a script may ask, and the laws of verdicts.
use Rattle.std.specs.Prelude.{◌≡◌, ℕ, ◌<◌, List, [], ◌∷◌, length}
use Rattle.handles.specs.Machine.{finish, abandon}
use Rattle.journal.specs.Journals.{IsLegal}
use Rattle.script.specs.declared.limits.TheConstants.{MOST_CLIENTS}
use Rattle.script.specs.declared.statement.Statement.{Statement}
use Rattle.script.specs.Statements.{IsLawful}
use Rattle.questions.specs.Program.{program, ProgramState, ProgramRequest, largest, request_for}
use Rattle.journal_text.specs.Calls.{IsLawfulRequest}
use Rattle.journal_text.specs.Entries.{AreLawful, ProgramEntry, text_of_journal}
use Rattle.audit.specs.Verdicts.{IsVerdict}
use Rattle.audit.specs.declared.verdict.Verdict.{Verdict}
use Rattle.audit.specs.declared.verdict.Verdict.TheVariants.{Legal}

-- the parts of what is asked are in their ranges, whatever the number of a job is
abbrev pub MayBeAsked : ProgramRequest → Type 0
MayBeAsked (finish j) = Unit {0}
MayBeAsked (abandon j) = Unit {0}
MayBeAsked r = IsLawfulRequest r

-- each of the entries is a seat's of the 64, and asks what may be asked
abbrev pub MayBeMade : List ProgramEntry → Type 0
MayBeMade [] = Unit {0}
MayBeMade (e ∷ es) = (e.seat < MOST_CLIENTS) × MayBeAsked e.request × MayBeMade es

-- a text has one verdict
abbrev pub HasOneVerdict : Type 0
HasOneVerdict = (text : List ℕ) (v w : Verdict) → IsVerdict text v → IsVerdict text w → v ≡ w

-- the text of a legal journal whose entries may be made is legal, of as many entries
abbrev pub RunsAreLegal : Type 0
RunsAreLegal = (es : List ProgramEntry) (t : ProgramState) → MayBeMade es → IsLegal program largest es t → IsVerdict (text_of_journal es) (Legal (length es))

-- the entries of a legal journal that may be made are lawful
abbrev pub EntriesAreLawful : Type 0
EntriesAreLawful = (es : List ProgramEntry) (t : ProgramState) → MayBeMade es → IsLegal program largest es t → AreLawful es

-- what a statement asks at first may be asked, where its parts are in their ranges
abbrev pub StatementsMayBeAsked : Type 0
StatementsMayBeAsked = (s : Statement) → IsLawful s → MayBeAsked (request_for s)
