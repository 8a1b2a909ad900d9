-- What every step of a machine keeps.
use Rattle.std.specs.Prelude.{◌≡◌, ◌≢◌, ℕ, Bool, true, false, Some, None, Result}
use Rattle.versions.specs.Commands.{Command}
use Rattle.versions.specs.Map.{Map}
use Rattle.versions.specs.declared.refusal.Refusal.{Refusal}
use Rattle.handles.specs.declared.call_reply.CallReply.{CallReply}
use Rattle.handles.specs.Machine.{Kind, State, Request, on, freeze, finish, Outcome, refused, frozen, Step, map_at, job_at, job_of, is_freeze}
use Rattle.handles.specs.Views.{IsStep, call_outcome, lacks_memory, outcome_of}

-- whether what a request leaves follows from the state alone: that of a finish depends on the answer, which is free
abbrev pub is_settled_by_state : {K V Q : Type 0} → Request K V Q → Bool
is_settled_by_state (finish j) = false
is_settled_by_state _ = true

module _ {K V Q A B : Type 0} (kind : Kind K V Q A B) where
  -- a command on one handle leaves the maps of the other handles, its snapshots among them
  abbrev pub CommandsKeepOtherHandles : Type 0
  CommandsKeepOtherHandles =
      (s t : State K V Q) (h other : ℕ) (c : Command K V) (o : Outcome K V B)
      → Step kind s (on h c) o t → other ≢ h → map_at t other ≡ map_at s other

  -- a refusal leaves all handles and all jobs
  abbrev pub RefusalsKeepAll : Type 0
  RefusalsKeepAll =
      (s t : State K V Q) (r : Request K V Q) (e : Refusal)
      → Step kind s r (refused e) t → (t.live ≡ s.live) × (t.jobs ≡ s.jobs)

  -- what a table answers is a step's outcome, unless memory ran out
  abbrev pub AnswersAreSteps : Type 0
  AnswersAreSteps =
      (s t : State K V Q) (r : Request K V Q) (answer : Result (CallReply V) Refusal)
      → lacks_memory answer ≡ false → IsStep kind s r call_outcome answer t → Step kind s r (outcome_of answer) t

  -- the job that a freeze opens is open afterwards, with its query and the map that it showed
  abbrev pub FreezesOpenJobs : Type 0
  FreezesOpenJobs =
      (s t : State K V Q) (h : ℕ) (q : Q) (j : ℕ) (m : Map K V)
      → Step kind s (freeze h q) (frozen j m) t → job_at t j ≡ Some (record { query = q; frozen = m })

  -- a request that neither opens nor closes a job leaves all jobs
  abbrev pub OthersKeepJobs : Type 0
  OthersKeepJobs =
      (s t : State K V Q) (r : Request K V Q) (o : Outcome K V B)
      → is_freeze r ≡ false → job_of r ≡ None → Step kind s r o t → t.jobs ≡ s.jobs

  -- where a step with an outcome that was foreseen could be made, and some step was made, it has that outcome
  abbrev pub ForeseenIsStep : Type 0
  ForeseenIsStep =
      (s t u : State K V Q) (r : Request K V Q) (o other : Outcome K V B)
      → is_settled_by_state r ≡ true → Step kind s r o u → Step kind s r other t → Step kind s r o t
