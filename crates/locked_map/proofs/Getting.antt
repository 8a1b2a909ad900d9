-- What the calls of get_or_else_update return, and what it answers.
use Rattle.std.proofs.Common.{◌≡◌, ℕ, Option, Some, None, Ok, Err, refl, sym, subst, ap}
use Rattle.std.specs.Prelude.{Result, IfOk, option_map}
use Rattle.std.specs.Arc.{arc_value}
use Rattle.std.specs.declared.sync.Arc.{Arc}
use Rattle.versions.specs.Commands.{get, put_if_absent, old}
use Rattle.versions.specs.Map.{value_at}
use Rattle.versions.specs.declared.refusal.Refusal.{Refusal}
use Rattle.held_maps.specs.declared.reply.Reply.{Reply}
use Rattle.held_maps.specs.declared.reply.Reply.TheVariants as replies
use Rattle.handles.specs.declared.call_reply.CallReply.{CallReply}
use Rattle.handles.specs.declared.call_reply.CallReply.TheVariants as call_replies
use Rattle.handles.specs.Machine.{Kind, State, Request, on, Outcome, replied, refused, Step, held_by}
use Rattle.handles.specs.Views.{call_outcome, reply_of}
use Rattle.journal.specs.Answers.{answered}
use Rattle.locked_map.specs.Seats.{Seated, Adds}
use Rattle.locked_map.specs.Getting.{MayReturn, TellsValue, AnswersPut, PutsOrFinds, AnswersGet, GetsOrElse}

-- a reply that shows an old value, or that there was none, is one
old_tells : {V : Type 0} (y : Reply V) (o : Option V) → reply_of y ≡ old o → (found : Option V) × TellsValue (call_replies.Reply y) found
old_tells (replies.Old found) o is = (option_map arc_value found, refl)
old_tells (replies.Done b) o is = cc
old_tells (replies.Size n) o is = cc
old_tells replies.Cleared o is = cc

-- the outcome of a call that returned a value, or none
pub outcome_telling : {K V B : Type 0} (y : CallReply V) (o : Option V) → TellsValue y o → call_outcome {K = K} {B = B} y ≡ replied (old o)
outcome_telling (call_replies.Reply (replies.Old found)) o is = ap (λ x. replied (old x)) is
outcome_telling (call_replies.Reply (replies.Done b)) o is = absurd is
outcome_telling (call_replies.Reply (replies.Size n)) o is = absurd is
outcome_telling (call_replies.Reply replies.Cleared) o is = absurd is
outcome_telling call_replies.Unit o is = absurd is

module _ {K V Q A B : Type 0} (kind : Kind K V Q A B) where
  -- what a step returned, it may return
  pub may_return : {T : Type 0} (s t : State K V Q) (r : Request K V Q) (shown : T → Outcome K V B) (a : Result T Refusal) → Step kind s r (answered shown a) t → IfOk a (λ y. MayReturn kind r (shown y))
  may_return s t r shown (Ok y) step = (s, t, step)
  may_return s t r shown (Err e) step = tt

  -- a get that is made returns the value that the key had, or none
  pub get_tells_value : (h : ℕ) (k : K) (y : CallReply V) → MayReturn kind (on h (get k)) (call_outcome y) → (o : Option V) × TellsValue y o
  get_tells_value h k call_replies.Unit told = absurd told.2.1
  get_tells_value h k (call_replies.Reply y) told = old_tells y (value_at kind.order (held_by told.0 h) k) told.2.1.0

  -- so is a put_if_absent
  pub put_tells_value : (h : ℕ) (k : K) (v : V) (y : CallReply V) → MayReturn kind (on h (put_if_absent k v)) (call_outcome y) → (o : Option V) × TellsValue y o
  put_tells_value h k v call_replies.Unit told = absurd told.2.1
  put_tells_value h k v (call_replies.Reply y) told = old_tells y (value_at kind.order (held_by told.0 h) k) told.2.1.0

module _ {K V Q B Z : Type 0} where
  pub put_refused : (h : ℕ) (k : K) (own : V) (s t : Seated K V Q B) (e : Refusal) (answer : Result (Arc V Z) Refusal) → Adds s (on h (put_if_absent k own)) (refused e) t → answer ≡ Err e → PutsOrFinds h k own s answer t
  put_refused h k own s t e answer adds is = (refused e, adds, is)

  pub put_found : (h : ℕ) (k : K) (own : V) (s t : Seated K V Q B) (o : Outcome K V B) (found : Arc V Z) → Adds s (on h (put_if_absent k own)) o t → o ≡ replied (old (Some (arc_value found))) → PutsOrFinds h k own s (Ok found) t
  put_found h k own s t o found adds is = (o, adds, subst (λ x. AnswersPut own x (Ok found)) (sym is) refl)

  pub put_made : (h : ℕ) (k : K) (own : V) (s t : Seated K V Q B) (o : Outcome K V B) (mine : Arc V Z) → Adds s (on h (put_if_absent k own)) o t → o ≡ replied (old None) → arc_value mine ≡ own → PutsOrFinds h k own s (Ok mine) t
  put_made h k own s t o mine adds is same = (o, adds, subst (λ x. AnswersPut own x (Ok mine)) (sym is) same)

  pub get_refused : (makes : V → Type 0) (h : ℕ) (k : K) (s t : Seated K V Q B) (e : Refusal) (answer : Result (Arc V Z) Refusal) → Adds s (on h (get k)) (refused e) t → answer ≡ Err e → GetsOrElse makes h k s answer t
  get_refused makes h k s t e answer adds is = (refused e, t, adds, (is, refl))

  pub get_found : (makes : V → Type 0) (h : ℕ) (k : K) (s t : Seated K V Q B) (o : Outcome K V B) (found : Arc V Z) → Adds s (on h (get k)) o t → o ≡ replied (old (Some (arc_value found))) → GetsOrElse makes h k s (Ok found) t
  get_found makes h k s t o found adds is = (o, t, adds, subst (λ x. AnswersGet makes h k t x (Ok found) t) (sym is) (refl, refl))

  pub get_made : (makes : V → Type 0) (h : ℕ) (k : K) (s m t : Seated K V Q B) (o : Outcome K V B) (own : V) (answer : Result (Arc V Z) Refusal) → Adds s (on h (get k)) o m → o ≡ replied (old None) → makes own → PutsOrFinds h k own m answer t → GetsOrElse makes h k s answer t
  get_made makes h k s m t o own answer adds is made puts = (o, m, adds, subst (λ x. AnswersGet makes h k m x answer t) (sym is) (own, made, puts))
