-- How the table's calls and their answers appear to the machine.
use Rattle.std.specs.Prelude.{◌≡◌, ℕ, ⊤, Bool, List, Option, Some, None, Result, Ok, Err, map, true, false, if◌then◌else◌}
use Rattle.std.specs.Arc.{arc_value}
use Rattle.std.specs.declared.cmp.Ordering.{Ordering}
use Rattle.versions.specs.Commands.{Command}
use Rattle.versions.specs.Map.{Map}
use Rattle.versions.specs.declared.refusal.Refusal.{Refusal}
use Rattle.versions.specs.declared.refusal.Refusal.TheVariants.{Full, NoMemory}
use Rattle.bulk_work.specs.Answers as plain
use Rattle.bulk_work.specs.Summaries.{summary_of}
use Rattle.bulk_work.specs.declared.asks.Answer.{Answer}
pub use Rattle.held_maps.specs.Commands.{IsPathFor, command_of, lacks_memory, leaves_map, reply_of}
use Rattle.held_maps.specs.declared.reply.Reply.{Reply}
use Rattle.handles.specs.declared.call.Call.{Call}
use Rattle.handles.specs.declared.call.Call.TheVariants.{Open, Snapshot, Drop, On}
use Rattle.handles.specs.declared.outcome.Outcome as told
use Rattle.handles.specs.declared.outcome.Outcome.TheVariants as tells
use Rattle.handles.specs.declared.request.Request as asking
use Rattle.handles.specs.declared.request.Request.TheVariants as asks
use Rattle.handles.specs.declared.request_ref.RequestRef.{RequestRef}
use Rattle.handles.specs.declared.request_ref.RequestRef.TheVariants as requests
use Rattle.handles.specs.declared.call_reply.CallReply.{CallReply}
use Rattle.handles.specs.declared.call_reply.CallReply.TheVariants as call_replies
use Rattle.handles.specs.Machine.{Kind, State, Request, open_handle, snapshot, drop_handle, on, view, freeze, finish, abandon, takes_no_memory, Outcome, Step, made, replied, viewed, frozen, finished, refused, refusal, is_entry, lacks_place}

-- the machine of a table, whose queries reserve these targets and have these answers
abbrev pub machine : {K V Q I : Type 0} → (K → K → Ordering) → (V → V → Bool) → (Q → Option ℕ) → (Q → Map K V → plain.Answer K V I → Type 0) → Kind K V Q (plain.Answer K V I) (plain.Summary K V I)
machine R E target answers = record { order = R; equal = E; target = target; answers = answers; map_of = plain.map_of; told = plain.summary }

-- the outcome of a call that opened or closed a handle
abbrev pub unit_outcome : {K V B : Type 0} → Unit {0} → Outcome K V B
unit_outcome u = made

-- the outcome of a call that made a command with this reply
abbrev pub reply_outcome : {K V B : Type 0} → Reply V → Outcome K V B
reply_outcome y = replied (reply_of y)

-- the outcome of a call that showed this map
abbrev pub view_outcome : {K V B : Type 0} → Map K V → Outcome K V B
view_outcome m = viewed m

-- the outcome of a call that opened a job of this number on this map
abbrev pub frozen_outcome : {K V B : Type 0} → ℕ × Map K V → Outcome K V B
frozen_outcome shown = frozen shown.0 shown.1

-- the outcome of a call that closed a job with this answer
abbrev pub finished_outcome : {K V I : Type 0} → Answer K V I → Outcome K V (plain.Summary K V I)
finished_outcome answer = finished (summary_of answer)

-- the request that a call is
abbrev pub request_of : {K V Q : Type 0} → Call K V → Request K V Q
request_of (Open h) = open_handle h
request_of (Snapshot h to) = snapshot h to
request_of (Drop h) = drop_handle h
request_of (On h c) = on h (command_of c)

-- the word is the path word of the key that a call names; where it names none, any word is
abbrev pub IsPathOf : {K V : Type 0} → (K → ℕ) → Call K V → ℕ → Type 0
IsPathOf path_of (On h c) w = IsPathFor path_of (command_of c) w
IsPathOf path_of call w = ⊤

-- the request that is asked, wherever its key, values and query lie
abbrev pub asked_of : {K V Q : Type 0} → asking.Request K V Q → Request K V Q
asked_of (asks.Call c) = request_of c
asked_of (asks.View h) = view h
asked_of (asks.Freeze h q) = freeze h (arc_value q)
asked_of (asks.Finish j) = finish j
asked_of (asks.Abandon j) = abandon j

-- the request whose refusal is asked for
abbrev pub requested : {K V Q : Type 0} → RequestRef Q → Request K V Q
requested (requests.Open h) = open_handle h
requested (requests.Snapshot h to) = snapshot h to
requested (requests.Drop h) = drop_handle h
requested (requests.View h) = view h
requested (requests.Freeze h q) = freeze h q.now
requested (requests.Finish j) = finish j
requested (requests.Abandon j) = abandon j

-- the outcome of a call that was answered so
abbrev pub call_outcome : {K V B : Type 0} → CallReply V → Outcome K V B
call_outcome call_replies.Unit = made
call_outcome (call_replies.Reply y) = replied (reply_of y)

-- the outcome that is returned, wherever its values lie
abbrev pub told_of : {K V I : Type 0} → told.Outcome K V I → Outcome K V (plain.Summary K V I)
told_of (tells.Reply y) = call_outcome y
told_of (tells.View m) = viewed m
told_of (tells.Frozen j m) = frozen j m
told_of (tells.Answer a) = finished (summary_of a)
told_of tells.Abandoned = made
told_of (tells.Refused e) = refused e

-- the outcome of a call with this result
abbrev pub outcome_of : {K V B : Type 0} → Result (CallReply V) Refusal → Outcome K V B
outcome_of (Ok y) = call_outcome y
outcome_of (Err e) = refused e

-- whether a call that is answered so leaves all maps as they were
abbrev pub leaves_maps : {K V : Type 0} → Call K V → Result (CallReply V) Refusal → Bool
leaves_maps (On h c) (Ok (call_replies.Reply y)) = leaves_map (command_of c) (reply_of y)
leaves_maps call (Ok y) = false
leaves_maps call (Err e) = true

-- the requests that the calls are
abbrev pub requests_of : {K V Q : Type 0} → List (Call K V) → List (Request K V Q)
requests_of calls = map request_of calls

-- the outcomes of calls with these results
abbrev pub outcomes_of : {K V B : Type 0} → List (Result (CallReply V) Refusal) → List (Outcome K V B)
outcomes_of answers = map outcome_of answers

-- whether a call that was answered so is an entry
abbrev pub is_counted : {T : Type 0} → Result T Refusal → Bool
is_counted (Ok x) = true
is_counted (Err e) = is_entry e

module _ {K V Q A B : Type 0} (kind : Kind K V Q A B) where
  -- a command on the handle is refused as `Full` where it lacks a place, and for no other reason
  abbrev pub IsFullAlone : State K V Q → ℕ → Command K V → Type 0
  IsFullAlone s h c = refusal kind s (on h c) ≡ (if lacks_place kind s (on h c) then Some Full else None)

module _ {K V Q A B T : Type 0} (kind : Kind K V Q A B) where
  -- a call is a step of the machine, with the outcome that its result shows; if memory runs out it changes nothing
  abbrev pub IsStep : State K V Q → Request K V Q → (T → Outcome K V B) → Result T Refusal → State K V Q → Type 0
  IsStep s r shown (Ok x) t = Step kind s r (shown x) t
  IsStep s r shown (Err NoMemory) t = t ≡ s
  IsStep s r shown (Err e) t = Step kind s r (refused e) t

  -- a call that takes no memory is not answered `NoMemory`
  abbrev pub AnswersWithoutMemory : Request K V Q → Result T Refusal → Type 0
  AnswersWithoutMemory r result = takes_no_memory r ≡ true → lacks_memory result ≡ false

  -- where a call is answered `NoMemory`, no refusal is due
  abbrev pub IsDue : State K V Q → Request K V Q → Result T Refusal → Type 0
  IsDue s r result = lacks_memory result ≡ true → refusal kind s r ≡ None

  -- what a call would be answered now: the machine may make a step with this outcome, or refuses so; `NoMemory` is foreseen only where no refusal is due
  abbrev pub Foresees : State K V Q → Request K V Q → (T → Outcome K V B) → Result T Refusal → Type 0
  Foresees s r shown (Ok x) = (t : State K V Q) × Step kind s r (shown x) t
  Foresees s r shown (Err NoMemory) = refusal kind s r ≡ None
  Foresees s r shown (Err e) = refusal kind s r ≡ Some e
