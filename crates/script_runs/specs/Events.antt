-- The events of a statement, and its reply.
use Rattle.std.specs.Prelude.{◌≡◌, ℤ, List, [], ◌∷◌, Option, Some, None, map}
use Rattle.versions.specs.Commands.{put_if_absent, old}
use Rattle.handles.specs.Machine.{on, finish, replied, frozen, Run}
use Rattle.script.specs.declared.statement.Statement.{Statement}
use Rattle.script.specs.declared.statement.Statement.TheVariants.{GetOrElse}
use Rattle.script.specs.declared.reply.LineReply.{LineReply}
use Rattle.script.specs.declared.reply.LineReply.TheVariants as replies
use Rattle.questions.specs.Program.{program, ProgramState, ProgramRequest, ProgramOutcome, reply_to, request_for}

-- a request, and what it was answered
abbrev pub Event : Type 0
Event = ProgramRequest × ProgramOutcome

-- the reply that shows the outcome of a request where a line's own value stands in for one that was not found
abbrev pub reply_with : ℤ → ProgramOutcome → Option LineReply
reply_with value (replied (old None)) = Some (replies.Found value)
reply_with value outcome = reply_to outcome

-- after a first event with this outcome the statement makes these events besides, and its line has this reply:
-- a `getorelse` whose get found nothing makes a put_if_absent, the freeze of a job is followed by its finish, and any other statement is done
abbrev pub Ends : Statement → ProgramOutcome → List Event → LineReply → Type 0
Ends (GetOrElse handle key value) (replied (old None)) events reply = (outcome : ProgramOutcome) × (events ≡ (on handle (put_if_absent key value), outcome) ∷ []) × (reply_with value outcome ≡ Some reply)
Ends statement (frozen job shown) events reply = (outcome : ProgramOutcome) × (events ≡ (finish job, outcome) ∷ []) × (reply_to outcome ≡ Some reply)
Ends statement outcome events reply = (events ≡ []) × (reply_to outcome ≡ Some reply)

-- the statement makes these events, one after another, and its line has this reply
abbrev pub Makes : Statement → List Event → LineReply → Type 0
Makes statement events reply = (outcome : ProgramOutcome) × (later : List Event) × (events ≡ (request_for statement, outcome) ∷ later) × Ends statement outcome later reply

-- the events are a run of the machine from one state to the other
abbrev pub IsRun : ProgramState → List Event → ProgramState → Type 0
IsRun s events t = Run program s (map (λ e. e.0) events) (map (λ e. e.1) events) t
