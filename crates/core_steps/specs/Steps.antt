-- How the steps of a core and their outcomes appear to its definitions.
use Rattle.std.specs.Prelude.{◌≡◌, ℕ, Bool, List, [], ◌∷◌, Option, Result, Ok, Err, false}
use Rattle.std.specs.Arc.{arc_value}
use Rattle.versions.specs.Map.{Map}
use Rattle.versions.specs.declared.refusal.Refusal.{Refusal}
use Rattle.versions.specs.declared.refusal.Refusal.TheVariants as refusals
use Rattle.trie_shape.specs.declared.no_memory.NoMemory.{NoMemory}
use Rattle.bulk_work.specs.Answers as plain
use Rattle.bulk_work.specs.Summaries.{summary_of}
use Rattle.handles.specs.declared.call_reply.CallReply.{CallReply}
use Rattle.handles.specs.Machine.{Kind, view, freeze, finish, abandon, made, viewed, frozen, finished, unfinished, Run}
use Rattle.handles.specs.Machine as machine
use Rattle.handles.specs.Views.{request_of, call_outcome}
use Rattle.iter.specs.Intervals.{AreApart}
use Rattle.worker_states.specs.Boards.{taking, stealing, splitting, working}
use Rattle.core_steps.specs.Cores.{CoreState, Asked, of_client, of_worker, CoreOutcome, to_client, to_worker, no_move, Division, IsUnfinished, CoreStep, refusal_of}
use Rattle.core_steps.specs.Parts.{CoreValue, PartsStep, PartsRun}
use Rattle.core_steps.specs.Moves.{moves_without_memory}
use Rattle.core_steps.specs.Traces.{client_requests, client_outcomes, covered, CoreRun}
use Rattle.worker_states.specs.Views.{move_result}
use Rattle.core_steps.specs.declared.step.Step.{Step}
use Rattle.core_steps.specs.declared.step.Step.TheVariants.{Call, View, Freeze, Finish, Abandon, Take, Steal, Split, Work}
use Rattle.core_steps.specs.declared.outcome.Outcome.{Outcome}
use Rattle.core_steps.specs.declared.outcome.Outcome.TheVariants as outcomes

-- what a step asks of the core
abbrev pub asked_by : {K V Q : Type 0} → Step K V Q → Asked K V Q
asked_by (Call c) = of_client (request_of c)
asked_by (View h) = of_client (view h)
asked_by (Freeze h q) = of_client (freeze h (arc_value q))
asked_by (Finish j) = of_client (finish j)
asked_by (Abandon j) = of_client (abandon j)
asked_by (Take j w) = of_worker j (taking w)
asked_by (Steal j w from) = of_worker j (stealing w from)
asked_by (Split j w) = of_worker j (splitting w)
asked_by (Work j w) = of_worker j (working w)

-- a query that is frozen is ready
abbrev pub CanAsk : {K V Q : Type 0} → (Q → Type 0) → Asked K V Q → Type 0
CanAsk ready (of_client (freeze h q)) = ready q
CanAsk ready x = Unit {0}

-- what is reported of a refusal
abbrev pub refusal_outcome : {K V Q B : Type 0} → Asked K V Q → Refusal → CoreOutcome K V B
refusal_outcome (of_client r) e = to_client (machine.refused e)
refusal_outcome (of_worker j x) e = no_move e

module _ {K V Q I : Type 0} where
  -- an outcome shows what is reported: of a freeze it shows the number of the job, whose map the core keeps
  abbrev pub Shows : Asked K V Q → Outcome K V I → CoreOutcome K V (plain.Summary K V I) → Type 0
  Shows x (outcomes.Reply y) t = t ≡ to_client (call_outcome y)
  Shows x (outcomes.View m) t = t ≡ to_client (viewed m)
  Shows x (outcomes.Frozen j) t = (m : Map K V) × (t ≡ to_client (frozen j m))
  Shows x (outcomes.Answer a) t = t ≡ to_client (finished (summary_of a))
  Shows x outcomes.Unfinished t = t ≡ to_client unfinished
  Shows x outcomes.Abandoned t = t ≡ to_client made
  Shows x (outcomes.Moved p) t = t ≡ to_worker (move_result p)
  Shows x (outcomes.Refused e) t = t ≡ refusal_outcome x e

-- what is answered where a step is refused: `NoMemory` is no outcome
abbrev pub refused_outcome : {K V I : Type 0} → Refusal → Result (Outcome K V I) NoMemory
refused_outcome refusals.NoMemory = Err (record {})
refused_outcome e = Ok (outcomes.Refused e)

-- what a call is answered
abbrev pub outcome_of_call : {K V I : Type 0} → Result (CallReply V) Refusal → Result (Outcome K V I) NoMemory
outcome_of_call (Ok y) = Ok (outcomes.Reply y)
outcome_of_call (Err e) = refused_outcome e

-- what a view is answered
abbrev pub outcome_of_view : {K V I : Type 0} → Result (Map K V) Refusal → Result (Outcome K V I) NoMemory
outcome_of_view (Ok m) = Ok (outcomes.View m)
outcome_of_view (Err e) = refused_outcome e

-- the refusal that is due to what is asked, if one is: a client's is the machine's, a worker's the core's
abbrev pub refusal_due : {K V Q A B : Type 0} → Kind K V Q A B → CoreState K V Q → Asked K V Q → Option Refusal
refusal_due kind s (of_client r) = machine.refusal kind s.machine r
refusal_due kind s (of_worker j x) = refusal_of s j x

-- whether what is asked takes no memory: of a client's requests what takes none of the machine, but for a finish, which joins the parts of workers
abbrev pub takes_no_memory : {K V Q : Type 0} → Asked K V Q → Bool
takes_no_memory (of_client (finish j)) = false
takes_no_memory (of_client r) = machine.takes_no_memory r
takes_no_memory (of_worker j x) = moves_without_memory x

-- where what is asked is a finish, its job is not unfinished
abbrev pub MayFinish : {K V Q : Type 0} → Division K V Q → CoreState K V Q → Asked K V Q → Type 0
MayFinish division s (of_client (finish j)) = IsUnfinished division s j → ⊥
MayFinish division s x = Unit {0}

module _ {K V Q P I A : Type 0} (kind : Kind K V Q A (plain.Summary K V I)) (division : Division K V Q) where
  -- one step of the core, of which the outcome shows what is reported; each worker keeps its part, but for one that has worked a piece
  pub record StepsTo (s : CoreValue K V Q P) (x : Asked K V Q) (o : Outcome K V I) (t : CoreValue K V Q P) : Type 0 where
    pub told : CoreOutcome K V (plain.Summary K V I)
    pub shown : Shows x o told
    pub step : CoreStep kind division s.state x told t.state
    pub parts : PartsStep s.parts told x t.parts

  -- the same of a step that may want memory, which changes nothing then
  abbrev pub IsAnswered : CoreValue K V Q P → Asked K V Q → Result (Outcome K V I) NoMemory → CoreValue K V Q P → Type 0
  IsAnswered s x (Ok o) t = StepsTo s x o t
  IsAnswered s x (Err e) t = t ≡ s

module _ {K V Q I : Type 0} where
  -- each outcome shows what is reported
  abbrev pub AllShow : List (Asked K V Q) → List (Outcome K V I) → List (CoreOutcome K V (plain.Summary K V I)) → Type 0
  AllShow [] [] [] = Unit {0}
  AllShow (x ∷ xs) (o ∷ os) (y ∷ ys) = Shows x o y × AllShow xs os ys
  AllShow _ _ _ = ⊥

module _ {K V Q P I A : Type 0} (kind : Kind K V Q A (plain.Summary K V I)) (division : Division K V Q) where
  -- steps of the core, one after another, of which the outcomes show what is reported: one outcome for each step; at each of them each worker keeps its part, but for one that has worked a piece
  pub record HasRun (s : CoreValue K V Q P) (xs : List (Asked K V Q)) (os : List (Outcome K V I)) (t : CoreValue K V Q P) : Type 0 where
    pub told : List (CoreOutcome K V (plain.Summary K V I))
    pub shown : AllShow xs os told
    pub run : CoreRun kind division s.state xs told t.state
    pub parts : PartsRun s.parts xs told t.parts

  -- the same; what clients see of it is a run of the machine, and of no job a position was worked twice
  pub record Ran (s : CoreValue K V Q P) (xs : List (Asked K V Q)) (os : List (Outcome K V I)) (t : CoreValue K V Q P) : Type 0 where
    pub steps : HasRun s xs os t
    pub machine : Run kind s.state.machine (client_requests xs) (client_outcomes steps.told) t.state.machine
    pub apart : (j : ℕ) → AreApart (covered j xs steps.told)
