-- A run goes on by one step.
use Rattle.std.proofs.Common.{◌≡◌, true, false, List, [], ◌∷◌, ◌++◌, refl, sym, subst, ap, map}
use Rattle.std.specs.Prelude.{Result, Ok, Err}
use Rattle.versions.specs.declared.refusal.Refusal.{Refusal}
use Rattle.versions.specs.declared.refusal.Refusal.TheVariants.{NoHandle, Taken, Full, NoJob, Unfinished, NoWorker, TooManyJobs, JournalFull, NoMemory, BadNumber}
use Rattle.handles.specs.declared.call.Call.{Call}
use Rattle.handles.specs.declared.call_reply.CallReply.{CallReply}
use Rattle.handles.specs.Machine.{Kind, State, Request, Outcome, Step, Run}
use Rattle.handles.specs.Views.{IsStep, request_of, call_outcome, outcome_of, requests_of, outcomes_of, lacks_memory}

module _ {K V Q A B : Type 0} (kind : Kind K V Q A B) where
  pub run_snoc : (s t u : State K V Q) (rs : List (Request K V Q)) (os : List (Outcome K V B)) (r : Request K V Q) (o : Outcome K V B)
      → Run kind s rs os t → Step kind t r o u → Run kind s (rs ++ r ∷ []) (os ++ o ∷ []) u
  run_snoc s t u [] [] r o run step = (u, (let P : State K V Q → Type 0 = λ x. Step kind x r o u in subst P (sym run) step), refl)
  run_snoc s t u [] (p ∷ os) r o run step = absurd run
  run_snoc s t u (q ∷ rs) [] r o run step = absurd run
  run_snoc s t u (q ∷ rs) (p ∷ os) r o run step = (run.0, run.1, run_snoc run.0 t u rs os r o run.2 step)

  -- an answer other than that memory ran out is a step
  pub step_of : (s : State K V Q) (r : Request K V Q) (answer : Result (CallReply V) Refusal) (t : State K V Q)
      → lacks_memory answer ≡ false → IsStep kind s r call_outcome answer t → Step kind s r (outcome_of answer) t
  step_of s r (Ok y) t n h = h
  step_of s r (Err NoMemory) t n h = absurd (cc)
  step_of s r (Err NoHandle) t n h = h
  step_of s r (Err Taken) t n h = h
  step_of s r (Err Full) t n h = h
  step_of s r (Err NoJob) t n h = h
  step_of s r (Err Unfinished) t n h = h
  step_of s r (Err NoWorker) t n h = h
  step_of s r (Err TooManyJobs) t n h = h
  step_of s r (Err JournalFull) t n h = h
  step_of s r (Err BadNumber) t n h = h

  -- the answer that memory ran out leaves all as it was
  pub unchanged : (s : State K V Q) (r : Request K V Q) (answer : Result (CallReply V) Refusal) (t : State K V Q)
      → lacks_memory answer ≡ true → IsStep kind s r call_outcome answer t → t ≡ s
  unchanged s r (Ok y) t n h = absurd (cc)
  unchanged s r (Err NoMemory) t n h = h
  unchanged s r (Err NoHandle) t n h = absurd (cc)
  unchanged s r (Err Taken) t n h = absurd (cc)
  unchanged s r (Err Full) t n h = absurd (cc)
  unchanged s r (Err NoJob) t n h = absurd (cc)
  unchanged s r (Err Unfinished) t n h = absurd (cc)
  unchanged s r (Err NoWorker) t n h = absurd (cc)
  unchanged s r (Err TooManyJobs) t n h = absurd (cc)
  unchanged s r (Err JournalFull) t n h = absurd (cc)
  unchanged s r (Err BadNumber) t n h = absurd (cc)

map-snoc : {X Y : Type 0} (f : X → Y) (xs : List X) (x : X) → map f (xs ++ x ∷ []) ≡ map f xs ++ f x ∷ []
map-snoc f [] x = refl
map-snoc f (y ∷ xs) x = ap (λ (r : List _). f y ∷ r) (map-snoc f xs x)

module _ {K V Q A B : Type 0} (kind : Kind K V Q A B) where
  pub run_more : (s t u : State K V Q) (calls : List (Call K V)) (answers : List (Result (CallReply V) Refusal)) (c : Call K V) (a : Result (CallReply V) Refusal)
      → Run kind s (requests_of calls) (outcomes_of answers) t → lacks_memory a ≡ false → IsStep kind t (request_of c) call_outcome a u
      → Run kind s (requests_of (calls ++ c ∷ [])) (outcomes_of (answers ++ a ∷ [])) u
  run_more s t u calls answers c a run n step =
      rw (map-snoc request_of calls c, map-snoc outcome_of answers a) (run_snoc kind s t u _ _ _ _ run (step_of kind t (request_of c) a u n step))
