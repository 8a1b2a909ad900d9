-- What the seat of a client files for a statement.
use Rattle.std.specs.Prelude.{◌≡◌, ℕ, ℤ, ◌⊎◌, List, [], ◌∷◌, ◌++◌, Some, map}
use Rattle.versions.specs.Map.{Map}
use Rattle.handles.specs.Machine.{finish, frozen}
use Rattle.locked_map.specs.Seats.{Placed, Seated}
use Rattle.script.specs.declared.statement.Statement.{Statement}
use Rattle.script.specs.declared.statement.Statement.TheVariants.{GetOrElse}
use Rattle.script.specs.declared.reply.LineReply.{LineReply}
use Rattle.script_runs.specs.Events.{Event, Makes}
use Rattle.questions.specs.Program.{ProgramSummary, ProgramRequest, ProgramOutcome, reply_to}
use Rattle.questions.specs.Queries.{ScriptQuestion}

-- the seat of a client
abbrev pub ProgramSeat : Type 0
ProgramSeat = Seated (List ℕ) ℤ ScriptQuestion ProgramSummary

-- what an entry of the seat asked, and what it was answered
abbrev pub event_of : Placed (List ℕ) ℤ ScriptQuestion ProgramSummary → Event
event_of p = (p.entry.request, p.entry.outcome)

-- all that the seat has filed, in order
abbrev pub events_at : ProgramSeat → List Event
events_at seat = map event_of seat.list

-- the seat filed these events, one after another, and nothing else
abbrev pub Files : ProgramSeat → List Event → ProgramSeat → Type 0
Files s events t = events_at t ≡ events_at s ++ events

-- the seat filed the events of the statement, and its line has this reply
abbrev pub FilesAnswer : ProgramSeat → Statement → LineReply → ProgramSeat → Type 0
FilesAnswer s statement reply t = (events : List Event) × Makes statement events reply × Files s events t

-- the seat filed this request, and the reply shows its outcome
abbrev pub FilesReply : ProgramSeat → ProgramRequest → LineReply → ProgramSeat → Type 0
FilesReply s request reply t = (outcome : ProgramOutcome) × Files s ((request, outcome) ∷ []) t × (reply_to outcome ≡ Some reply)

-- the seat filed this request, which opened a job, and the job's finish, of which the reply shows the outcome
abbrev pub FilesJob : ProgramSeat → ProgramRequest → LineReply → ProgramSeat → Type 0
FilesJob s request reply t = (job : ℕ) × (shown : Map (List ℕ) ℤ) × (outcome : ProgramOutcome) × Files s ((request, frozen job shown) ∷ (finish job, outcome) ∷ []) t × (reply_to outcome ≡ Some reply)

-- the one or the other
abbrev pub FilesService : ProgramSeat → ProgramRequest → LineReply → ProgramSeat → Type 0
FilesService s request reply t = FilesReply s request reply t ⊎ FilesJob s request reply t

-- the seat filed the events of a getorelse
abbrev pub FilesOrElse : ProgramSeat → ℕ → List ℕ → ℤ → LineReply → ProgramSeat → Type 0
FilesOrElse s handle key value reply t = FilesAnswer s (GetOrElse handle key value) reply t
