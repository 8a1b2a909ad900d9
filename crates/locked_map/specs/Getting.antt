-- What get_or_else_update asks, and what it answers.
use Rattle.std.specs.Prelude.{◌≡◌, ℕ, Option, Some, None, option_map, Result, Err, IsOkAnd}
use Rattle.std.specs.Arc.{arc_value}
use Rattle.std.specs.declared.sync.Arc.{Arc}
use Rattle.versions.specs.Commands.{get, put_if_absent, old}
use Rattle.versions.specs.declared.refusal.Refusal.{Refusal}
use Rattle.held_maps.specs.declared.reply.Reply.TheVariants as replies
use Rattle.handles.specs.declared.call_reply.CallReply.{CallReply}
use Rattle.handles.specs.declared.call_reply.CallReply.TheVariants as call_replies
use Rattle.handles.specs.Machine.{Kind, State, Request, on, Outcome, replied, refused, Step}
use Rattle.locked_map.specs.Seats.{Seated, Adds}

-- an outcome that the request may have: that of some step of the machine
abbrev pub MayReturn : {K V Q A B : Type 0} → Kind K V Q A B → Request K V Q → Outcome K V B → Type 0
MayReturn {K} {V} {Q} kind r o = (s : State K V Q) × (t : State K V Q) × Step kind s r o t

module _ {V : Type 0} where
  -- the reply of a call has this value that a key had, or none
  abbrev pub TellsValue : CallReply V → Option V → Type 0
  TellsValue (call_replies.Reply (replies.Old found)) o = option_map arc_value found ≡ o
  TellsValue reply o = ⊥

module _ {V Z : Type 0} where
  -- the answer is this value, wherever it lies
  abbrev pub Gives : V → Result (Arc V Z) Refusal → Type 0
  Gives v answer = IsOkAnd answer (λ (a : Arc V Z). arc_value a ≡ v)

module _ {K V B Z : Type 0} where
  -- what is answered where a put_if_absent of the caller's own value was answered this: its refusal, else the value that was found, else the own value
  abbrev pub AnswersPut : V → Outcome K V B → Result (Arc V Z) Refusal → Type 0
  AnswersPut own (refused e) answer = answer ≡ Err e
  AnswersPut own (replied (old (Some v))) answer = Gives v answer
  AnswersPut own (replied (old None)) answer = Gives own answer
  AnswersPut own o answer = ⊥

module _ {K V Q B Z : Type 0} where
  -- a put_if_absent of the caller's own value, and what is answered then
  abbrev pub PutsOrFinds : ℕ → K → V → Seated K V Q B → Result (Arc V Z) Refusal → Seated K V Q B → Type 0
  PutsOrFinds h k own s answer t = (o : Outcome K V B) × Adds s (on h (put_if_absent k own)) o t × AnswersPut own o answer

  -- what follows where a get was answered this: its refusal is the answer, or the value that it found; else a value is made, and a put_if_absent of it follows
  abbrev pub AnswersGet : (V → Type 0) → ℕ → K → Seated K V Q B → Outcome K V B → Result (Arc V Z) Refusal → Seated K V Q B → Type 0
  AnswersGet makes h k s (refused e) answer t = (answer ≡ Err e) × (t ≡ s)
  AnswersGet makes h k s (replied (old (Some v))) answer t = Gives v answer × (t ≡ s)
  AnswersGet makes h k s (replied (old None)) answer t = (own : V) × makes own × PutsOrFinds h k own s answer t
  AnswersGet makes h k s o answer t = ⊥

  -- a get of the key on the handle, and what follows
  abbrev pub GetsOrElse : (V → Type 0) → ℕ → K → Seated K V Q B → Result (Arc V Z) Refusal → Seated K V Q B → Type 0
  GetsOrElse makes h k s answer t = (o : Outcome K V B) × (m : Seated K V Q B) × Adds s (on h (get k)) o m × AnswersGet makes h k m o answer t
