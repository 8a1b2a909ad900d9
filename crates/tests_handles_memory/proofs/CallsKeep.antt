-- What a call keeps, whatever it is answered, and which parts answer a job that is shown.
use Rattle.std.proofs.Common.{◌≡◌, ◌≢◌, ℕ, true, false, refl, sym, subst, Option, Some, None}
use Rattle.std.specs.Prelude.{Result, Ok, Err, IfOk, OnErr}
use Rattle.versions.specs.Commands.{Command}
use Rattle.versions.specs.Map.{Map}
use Rattle.versions.specs.declared.refusal.Refusal.{Refusal}
use Rattle.versions.specs.declared.refusal.Refusal.TheVariants.{NoHandle, Taken, Full, NoJob, Unfinished, NoWorker, TooManyJobs, JournalFull, NoMemory, BadNumber}
use Rattle.handles.specs.declared.call.Call.{Call}
use Rattle.handles.specs.declared.call.Call.TheVariants.{Open, Snapshot, Drop, On}
use Rattle.handles.specs.declared.call_reply.CallReply.{CallReply}
use Rattle.handles.specs.Laws.{AnswersAreSteps, CommandsKeepOtherHandles, ForeseenIsStep, FreezesOpenJobs, OthersKeepJobs, RefusalsKeepAll, is_settled_by_state}
use Rattle.handles.specs.Machine.{Job, Kind, State, Request, on, freeze, Step, is_freeze, job_at, job_of, map_at}
use Rattle.handles.specs.Views.{Foresees, IsStep, call_outcome, frozen_outcome, lacks_memory, outcome_of, request_of}

module _ {K V : Type 0} (Q : Type 0) where
  -- a call as a value opens no job
  pub no_freeze : (call : Call K V) → is_freeze {K = K} {V = V} {Q = Q} (request_of call) ≡ false
  no_freeze (Open h) = refl
  no_freeze (Snapshot h to) = refl
  no_freeze (Drop h) = refl
  no_freeze (On h c) = refl

  -- and closes none
  pub no_end : (call : Call K V) → job_of {K = K} {V = V} {Q = Q} (request_of call) ≡ None
  no_end (Open h) = refl
  no_end (Snapshot h to) = refl
  no_end (Drop h) = refl
  no_end (On h c) = refl

module _ {K V Q A B : Type 0} (kind : Kind K V Q A B) (steps : AnswersAreSteps kind) where
  -- what holds before it and after each step holds after it
  pub kept_by_call : (P : State K V Q → Type 0) (s t : State K V Q) (r : Request K V Q) (answer : Result (CallReply V) Refusal)
      → IsStep kind s r call_outcome answer t → P s → (Step kind s r (outcome_of answer) t → P t) → P t
  kept_by_call P s t r (Ok y) step before after = after (steps s t r (Ok y) refl step)
  kept_by_call P s t r (Err NoMemory) step before after = subst P (sym step) before
  kept_by_call P s t r (Err NoHandle) step before after = after (steps s t r (Err NoHandle) refl step)
  kept_by_call P s t r (Err Taken) step before after = after (steps s t r (Err Taken) refl step)
  kept_by_call P s t r (Err Full) step before after = after (steps s t r (Err Full) refl step)
  kept_by_call P s t r (Err NoJob) step before after = after (steps s t r (Err NoJob) refl step)
  kept_by_call P s t r (Err Unfinished) step before after = after (steps s t r (Err Unfinished) refl step)
  kept_by_call P s t r (Err NoWorker) step before after = after (steps s t r (Err NoWorker) refl step)
  kept_by_call P s t r (Err TooManyJobs) step before after = after (steps s t r (Err TooManyJobs) refl step)
  kept_by_call P s t r (Err JournalFull) step before after = after (steps s t r (Err JournalFull) refl step)
  kept_by_call P s t r (Err BadNumber) step before after = after (steps s t r (Err BadNumber) refl step)

  -- the step that a call makes has the reply that was foreseen, whatever the call was answered
  pub made_as_foreseen : ForeseenIsStep kind → (s t : State K V Q) (r : Request K V Q) (wanted answer : Result (CallReply V) Refusal) → is_settled_by_state r ≡ true
      → Foresees kind s r call_outcome wanted → lacks_memory answer ≡ false → IsStep kind s r call_outcome answer t → IfOk wanted (λ y. Step kind s r (call_outcome y) t)
  made_as_foreseen law s t r (Ok y) answer settled could had step = law s t could.0 r (call_outcome y) (outcome_of answer) settled could.1 (steps s t r answer had step)
  made_as_foreseen law s t r (Err e) answer settled could had step = tt

  -- the open jobs are kept by each call that is a value
  pub jobs_kept_by_call : OthersKeepJobs kind → (s t : State K V Q) (call : Call K V) (answer : Result (CallReply V) Refusal)
      → IsStep kind s (request_of call) call_outcome answer t → t.jobs ≡ s.jobs
  jobs_kept_by_call law s t call answer step =
      kept_by_call (λ (x : State K V Q). x.jobs ≡ s.jobs) s t (request_of call) answer step refl (law s t (request_of call) (outcome_of answer) (no_freeze Q call) (no_end Q call))

  -- the maps of the other handles are kept by a command
  pub others_kept_by_call : CommandsKeepOtherHandles kind → (s t : State K V Q) (h : ℕ) (c : Command K V) (answer : Result (CallReply V) Refusal)
      → IsStep kind s (on h c) call_outcome answer t → (other : ℕ) → other ≢ h → map_at t other ≡ map_at s other
  others_kept_by_call law s t h c answer step other apart =
      kept_by_call (λ (x : State K V Q). map_at x other ≡ map_at s other) s t (on h c) answer step refl (λ made. law s t h other c (outcome_of answer) made apart)

  -- all maps are kept by a call that is refused
  pub all_kept_by_refusal : RefusalsKeepAll kind → (s t : State K V Q) (r : Request K V Q) (answer : Result (CallReply V) Refusal)
      → IsStep kind s r call_outcome answer t → OnErr answer (t.live ≡ s.live)
  all_kept_by_refusal law s t r (Ok y) step = tt
  all_kept_by_refusal law s t r (Err e) step =
      kept_by_call (λ (x : State K V Q). x.live ≡ s.live) s t r (Err e) step refl (λ refusal. (law s t r e refusal).0)

module _ {K V Q A B : Type 0} (kind : Kind K V Q A B) where
  -- the job is open that a freeze of a query of this value opened
  pub open_after_freeze : FreezesOpenJobs kind → (s t : State K V Q) (h : ℕ) (q p : Q) → q ≡ p → (answer : Result (ℕ × Map K V) Refusal)
      → IsStep kind s (freeze h q) frozen_outcome answer t → IfOk answer (λ shown. job_at t shown.0 ≡ Some (record { query = p; frozen = shown.1 }))
  open_after_freeze law s t h q p same (Ok shown) step =
      subst (λ (x : Q). job_at t shown.0 ≡ Some (record { query = x; frozen = shown.1 })) same (law s t h q shown.0 shown.1 step)
  open_after_freeze law s t h q p same (Err e) step = tt

module _ {K V Q P : Type 0} (answers : Q → Map K V → P → Type 0) where
  -- a part that answers a query for a map answers whatever job is open with that query and that map
  pub answers_open : (o : Option (Job K V Q)) (q : Q) (m : Map K V) (part : P) → o ≡ Some (record { query = q; frozen = m }) → answers q m part
      → (j : Job K V Q) → o ≡ Some j → answers j.query j.frozen part
  answers_open o q m part is answered j also =
      let job : Job K V Q = record { query = q; frozen = m } in
      let same : job ≡ j = cc in
      subst (λ (x : Job K V Q). answers x.query x.frozen part) same answered
