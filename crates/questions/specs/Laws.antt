-- Which outcomes a request of the program's machine has.
use Rattle.std.specs.Prelude.{◌≡◌, ◌≢◌, ℕ, ℤ, Bool, true, false, List, Some}
use Rattle.handles.specs.Machine.{Job, Step, finish, job_at, unfinished, worker_step}
use Rattle.questions.specs.Program.{asks_choice, program, ProgramOutcome, ProgramRequest, ProgramState}
use Rattle.questions.specs.Queries.{ScriptQuestion}

-- whether the request is neither a finish nor a worker's step
abbrev pub is_settled_at_once : ProgramRequest → Bool
is_settled_at_once (finish job) = false
is_settled_at_once worker_step = false
is_settled_at_once request = true

-- such a request has one outcome in a state, and leaves one state
abbrev pub HaveOneOutcome : Type 0
HaveOneOutcome = (r : ProgramRequest) (s t u : ProgramState) (o p : ProgramOutcome) → is_settled_at_once r ≡ true → Step program s r o t → Step program s r p u → (o ≡ p) × (t ≡ u)

-- a finish with a given outcome leaves one state
abbrev pub FinishesLeaveOne : Type 0
FinishesLeaveOne = (j : ℕ) (s t u : ProgramState) (o : ProgramOutcome) → Step program s (finish j) o t → Step program s (finish j) o u → t ≡ u

-- where the open job has one answer, a finish that is not `unfinished` has one outcome and leaves one state
abbrev pub FinishesTellOne : Type 0
FinishesTellOne = (j : ℕ) (job : Job (List ℕ) ℤ ScriptQuestion) (s t u : ProgramState) (o p : ProgramOutcome) → job_at s j ≡ Some job → asks_choice job.query ≡ false → o ≢ unfinished → p ≢ unfinished → Step program s (finish j) o t → Step program s (finish j) p u → (o ≡ p) × (t ≡ u)
