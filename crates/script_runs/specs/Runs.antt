-- What is written for a script, and the journal of its run.
use Rattle.std.specs.Prelude.{◌≡◌, ℕ, ℤ, Bool, true, false, All, List, [], ◌∷◌, Option, Some, None, map}
use Rattle.std.specs.Io.KnownBytes.{Appends}
use Rattle.std.specs.List.{flat_map}
use Rattle.journal.specs.Journals.{Entered, IsLegal, own}
pub use Rattle.reply_order.specs.ReplyOrder.{AreMerged, AreRepliesTo, IsNext, beside, is_line_of, lines_by, text_for}
use Rattle.script.specs.Scripts.{Spells}
use Rattle.journal_text.specs.Entries.{text_of_journal}
use Rattle.script_runs.specs.Events.{Event, Makes}
use Rattle.questions.specs.Program.{largest, program, ProgramState, ProgramSummary}
use Rattle.questions.specs.Queries.{ScriptQuestion}
use Rattle.script.specs.declared.statement.Statement.{Statement}
use Rattle.script.specs.declared.statement.Statement.TheVariants.{Find, MapPairs}
use Rattle.script.specs.declared.statement.CommandLine.{CommandLine}
use Rattle.script.specs.declared.reply.LineReply.{LineReply}

-- the events of a command line, and its reply
pub record LineAnswer : Type 0 where
  pub events : List Event
  pub reply : LineReply

-- each line makes the events of its answer, and has its reply
abbrev pub EachMakes : List CommandLine → List LineAnswer → Type 0
EachMakes [] [] = Unit {0}
EachMakes (line ∷ lines) (answer ∷ answers) = Makes line.statement answer.events answer.reply × EachMakes lines answers
EachMakes _ _ = ⊥

-- the events of all lines, in order
abbrev pub events_of : List LineAnswer → List Event
events_of answers = flat_map (λ a. a.events) answers

-- the replies of all lines, in order
abbrev pub replies_in : List LineAnswer → List LineReply
replies_in answers = map (λ a. a.reply) answers

-- an entry of the journal of a program
abbrev pub ProgramEntry : Type 0
ProgramEntry = Entered (List ℕ) ℤ ScriptQuestion ProgramSummary

-- what entries asked and their responses, each beside its place in the journal
abbrev pub events_in : List (ℕ × ProgramEntry) → List Event
events_in entries = map (λ x. (x.1.request, x.1.outcome)) entries

-- the lines make these events and have these replies, one line after another
pub record LinesMake (lines : List CommandLine) (events : List Event) (replies : List LineReply) : Type 0 where
  pub answers : List LineAnswer
  pub made : EachMakes lines answers
  pub events_are : events ≡ events_of answers
  pub replies_are : replies ≡ replies_in answers

-- a run of the script has this journal and this text: the journal is legal; each line makes the events of its answer, and has its reply;
-- the entries of each seat are the events of the lines of its client, in their order, and so a seat without lines has none;
-- and the text has the replies of all lines in the order of the lines
pub record IsRunOf (script : List CommandLine) (journal : List ProgramEntry) (text : List ℕ) : Type 0 where
  pub end : ProgramState
  pub legal : IsLegal program largest journal end
  pub answers : List LineAnswer
  pub made : EachMakes script answers
  pub each : (client : ℕ) → events_in (own client 0 journal) ≡ events_of (beside client script answers)
  pub written : text ≡ text_for script (replies_in answers)

-- the text may be written for the script
abbrev pub IsOutputOf : List CommandLine → List ℕ → Type 0
IsOutputOf script text = (journal : List ProgramEntry) × IsRunOf script journal text

-- all lines are one client's
abbrev pub HasOneClient : List CommandLine → Type 0
HasOneClient script = (client : ℕ) × All (λ line. line.client ≡ client) script

-- whether the statement asks for some pair that passes, or for the map of images, of which there may be several
abbrev pub leaves_choice : Statement → Bool
leaves_choice (Find handle test) = true
leaves_choice (MapPairs handle mapping target) = true
leaves_choice statement = false

-- no line does
abbrev pub LeavesNoChoice : List CommandLine → Type 0
LeavesNoChoice [] = Unit {0}
LeavesNoChoice (line ∷ lines) = (leaves_choice line.statement ≡ false) × LeavesNoChoice lines

-- the text spells a script, a run of it has this journal, and a writer that held the old bytes has its output behind them
abbrev pub HasRun : List ℕ → List ProgramEntry → Option (List ℕ) → Option (List ℕ) → Type 0
HasRun text journal old new = (script : List CommandLine) × Spells text script × (output : List ℕ) × IsRunOf script journal output × Appends old new output

-- what is kept of a journal: its text where that is asked for, and else nothing
abbrev pub IsKept : Bool → List ProgramEntry → Option (List ℕ) → Type 0
IsKept true journal kept = kept ≡ Some (text_of_journal journal)
IsKept false journal kept = kept ≡ None

-- the text spells a script, a writer that held the old bytes has the output of a run behind them, and the journal of that very run is kept where it is asked for
abbrev pub RunsText : List ℕ → Option (List ℕ) → Option (List ℕ) → Bool → Option (List ℕ) → Type 0
RunsText text old new asked kept = (journal : List ProgramEntry) × HasRun text journal old new × IsKept asked journal kept
