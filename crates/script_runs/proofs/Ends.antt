-- Which statements are done after one event.
use Rattle.std.proofs.Common.{◌≡◌, ℕ, ◌⊎◌, List, [], ◌∷◌, Some, None, inl, inr, refl}
use Rattle.std.specs.Prelude.{ℤ}
use Rattle.versions.specs.Commands.{old}
use Rattle.versions.specs.Map.{Map}
use Rattle.handles.specs.Machine.{finish, frozen, replied}
use Rattle.script_runs.specs.Events.{Event, Ends}
use Rattle.questions.specs.Program.{ProgramOutcome, reply_to}
use Rattle.script.specs.declared.statement.Statement.{Statement}
use Rattle.script.specs.declared.statement.Statement.TheVariants.{GetOrElse}
use Rattle.script.specs.declared.reply.LineReply.{LineReply}

-- the statement is a getorelse whose get found nothing
pub record Missing (statement : Statement) (outcome : ProgramOutcome) : Type 0 where
  pub handle : ℕ
  pub key : List ℕ
  pub value : ℤ
  pub statement_is : statement ≡ GetOrElse handle key value
  pub nothing : outcome ≡ replied (old None)

-- the statement is done after an event with this outcome
abbrev pub IsDone : Statement → ProgramOutcome → Type 0
IsDone statement outcome =
    ((later : List Event) (reply : LineReply) → Ends statement outcome later reply → (later ≡ []) × (reply_to outcome ≡ Some reply))
    × ((reply : LineReply) → reply_to outcome ≡ Some reply → Ends statement outcome [] reply)

-- a job is finished, and the reply shows how
abbrev pub EndsByFinish : ℕ → List Event → LineReply → Type 0
EndsByFinish job later reply = (outcome : ProgramOutcome) × (later ≡ (finish job, outcome) ∷ []) × (reply_to outcome ≡ Some reply)

-- the outcome opened a job, which the statement then finishes
pub record Opened (statement : Statement) (outcome : ProgramOutcome) : Type 0 where
  pub job : ℕ
  pub shown : Map (List ℕ) ℤ
  pub opened : outcome ≡ frozen job shown
  pub from : (later : List Event) (reply : LineReply) → Ends statement outcome later reply → EndsByFinish job later reply
  pub to : (later : List Event) (reply : LineReply) → EndsByFinish job later reply → Ends statement outcome later reply

-- it is one of these
pub missing_or_done : (statement : Statement) (outcome : ProgramOutcome) → Missing statement outcome ⊎ Opened statement outcome ⊎ IsDone statement outcome
missing_or_done (GetOrElse h k v) (replied (old None)) = inl (record { handle = h; key = k; value = v; statement_is = refl; nothing = refl })
missing_or_done (GetOrElse h k v) (replied (old (Some found))) = inr (inr (λ later reply ends. ends, λ reply shown. (refl, shown)))
missing_or_done (GetOrElse h k v) (replied _) = inr (inr (λ later reply ends. ends, λ reply shown. (refl, shown)))
missing_or_done (GetOrElse h k v) (frozen job shown) = inr (inl (record { job = job; shown = shown; opened = refl; from = λ later reply ends. ends; to = λ later reply ends. ends }))
missing_or_done (GetOrElse h k v) outcome = inr (inr (λ later reply ends. ends, λ reply shown. (refl, shown)))
missing_or_done statement (frozen job shown) = inr (inl (record { job = job; shown = shown; opened = refl; from = λ later reply ends. ends; to = λ later reply ends. ends }))
missing_or_done statement outcome = inr (inr (λ later reply ends. ends, λ reply shown. (refl, shown)))
