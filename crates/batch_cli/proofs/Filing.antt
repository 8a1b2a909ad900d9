-- What a seat files for a statement, from what it adds at each call.
use Rattle.std.proofs.Common.{◌≡◌, true, ℕ, ◌∙◌, List, [], ◌∷◌, ◌++◌, Option, Some, None, Result, Ok, Err, IfOk, OnOk, inl, inr, refl, sym, ap, subst}
use Rattle.std.specs.Prelude.{ℤ}
use Rattle.std.specs.Arc.{arc_value}
use Rattle.std.specs.declared.sync.Arc.{Arc}
use Rattle.std.proofs.lemmas.List.{append_assoc, map-append}
use Rattle.versions.specs.Map.{Map}
use Rattle.versions.specs.Commands.{get, put_if_absent, old, done, count, cleared}
use Rattle.versions.specs.declared.refusal.Refusal.{Refusal}
use Rattle.versions.specs.declared.refusal.Refusal.TheVariants.{NoHandle, Taken, Full, NoJob, Unfinished, NoWorker, TooManyJobs, JournalFull, NoMemory, BadNumber}
use Rattle.bulk_work.specs.Summaries.{summary_of}
use Rattle.bulk_work.specs.declared.asks.Answer.{Answer}
use Rattle.handles.specs.Machine.{finish, freeze, frozen, is_entry, made, on, replied, viewed, finished, refused, unfinished, worked}
use Rattle.handles.specs.Views.{call_outcome, is_counted, outcome_of}
use Rattle.handles.specs.declared.call_reply.CallReply.{CallReply}
use Rattle.handles.specs.declared.call_reply.CallReply.TheVariants as call_replies
use Rattle.journal.specs.Answers.{answered}
use Rattle.journal.specs.Journals.{is_filed}
use Rattle.locked_map.specs.Bulks.{AddsBulk, EndsBulk}
use Rattle.locked_map.specs.Seats.{Adds, with_entry}
use Rattle.locked_map.specs.Getting.{AnswersGet, AnswersPut, GetsOrElse}
use Rattle.locked_map.specs.Tickets.{Ticketed, ticket_outcome}
use Rattle.script.specs.declared.statement.Statement.{Statement}
use Rattle.script.specs.declared.statement.Statement.TheVariants.{GetOrElse}
use Rattle.script.specs.declared.reply.LineReply.{LineReply}
use Rattle.script.specs.declared.reply.LineReply.TheVariants.{Found, Refused}
use Rattle.script_runs.specs.Events.{Event, Ends, Makes}
use Rattle.questions.specs.Folds.{Item}
use Rattle.questions.specs.Program.{ProgramAnswer, ProgramSummary, ProgramRequest, ProgramOutcome, or_else_in, reply_to, request_for, summary_reply}
use Rattle.questions.specs.Queries.{ScriptQuestion}
use Rattle.batch_cli.specs.Filing.{ProgramSeat, Files, FilesAnswer, FilesJob, FilesOrElse, FilesReply, FilesService, event_of, events_at}
use Rattle.script_runs.proofs.Ends.{missing_or_done}

-- the entry that a call adds is the one event filed
with_one : (s : ProgramSeat) (r : ProgramRequest) (o : ProgramOutcome) (t : ProgramSeat) (place : ℕ) → t ≡ with_entry s r o place → Files s ((r, o) ∷ []) t
with_one s r o t place is = ap events_at is ∙ map-append event_of s.list _

-- a call that is answered by an entry files it
pub filed : (s : ProgramSeat) (r : ProgramRequest) (o : ProgramOutcome) (t : ProgramSeat) → Adds s r o t → is_filed o ≡ true → Files s ((r, o) ∷ []) t
filed s r (refused NoJob) t adds kept = cc
filed s r (refused Unfinished) t adds kept = cc
filed s r (refused JournalFull) t adds kept = cc
filed s r (refused NoMemory) t adds kept = cc
filed s r (refused NoHandle) t (place, is) kept = with_one s r (refused NoHandle) t place is
filed s r (refused Taken) t (place, is) kept = with_one s r (refused Taken) t place is
filed s r (refused Full) t (place, is) kept = with_one s r (refused Full) t place is
filed s r (refused NoWorker) t adds kept = absurd adds
filed s r (refused TooManyJobs) t (place, is) kept = with_one s r (refused TooManyJobs) t place is
filed s r (refused BadNumber) t (place, is) kept = with_one s r (refused BadNumber) t place is
filed s r made t (place, is) kept = with_one s r made t place is
filed s r (replied y) t (place, is) kept = with_one s r (replied y) t place is
filed s r (viewed m) t (place, is) kept = with_one s r (viewed m) t place is
filed s r (frozen j m) t (place, is) kept = with_one s r (frozen j m) t place is
filed s r (finished told) t (place, is) kept = with_one s r (finished told) t place is
filed s r unfinished t adds kept = cc
filed s r worked t adds kept = cc

-- some events, and then others
pub then_filed : (s m t : ProgramSeat) (es fs : List Event) → Files s es m → Files m fs t → Files s (es ++ fs) t
then_filed s m t es fs first more = more ∙ ap (λ (front : List Event). front ++ fs) first ∙ append_assoc (events_at s) es fs

-- an answer that is counted is filed
counted_filed : (answer : Result (CallReply ℤ) Refusal) → is_counted answer ≡ true → is_filed {K = List ℕ} {B = ProgramSummary} (outcome_of answer) ≡ true
counted_filed (Ok call_replies.Unit) h = refl
counted_filed (Ok (call_replies.Reply y)) h = refl
counted_filed (Err e) h = h

-- what a call adds, by its result
outcome_is : (answer : Result (CallReply ℤ) Refusal) → answered call_outcome answer ≡ outcome_of {K = List ℕ} {B = ProgramSummary} answer
outcome_is (Ok y) = refl
outcome_is (Err e) = refl

-- a call whose answer is shown files its event
pub answer_filed : {E : Type 0} (s t : ProgramSeat) (r : ProgramRequest) (answer : Result (CallReply ℤ) Refusal) (result : Result LineReply E) → Adds s r (answered call_outcome answer) t → OnOk result (is_counted answer ≡ true) → IfOk result (λ reply. reply_to (outcome_of answer) ≡ Some reply)
    → IfOk result (λ reply. FilesReply s r reply t)
answer_filed s t r answer (Ok reply) adds counted shown = (outcome_of answer, filed s r (outcome_of answer) t (subst (λ o. Adds s r o t) (outcome_is answer) adds) (counted_filed answer counted), shown)
answer_filed s t r answer (Err e) adds counted shown = tt

-- a call whose answer is shown so files its event
pub reply_filed : {E : Type 0} (s t : ProgramSeat) (r : ProgramRequest) (o : ProgramOutcome) (result : Result LineReply E) → Adds s r o t → OnOk result (is_filed o ≡ true) → IfOk result (λ reply. reply_to o ≡ Some reply) → IfOk result (λ reply. FilesReply s r reply t)
reply_filed s t r o (Ok reply) adds kept shown = (o, filed s r o t adds kept, shown)
reply_filed s t r o (Err e) adds kept shown = tt

-- so does one that is refused
pub refusal_filed : {E : Type 0} (s t : ProgramSeat) (r : ProgramRequest) (e : Refusal) (result : Result LineReply E) → Adds s r (refused e) t → OnOk result (is_entry e ≡ true) → IfOk result (λ reply. reply ≡ Refused e) → IfOk result (λ reply. FilesReply s r reply t)
refusal_filed s t r e (Ok reply) adds kept is = (refused e, filed s r (refused e) t adds kept, ap (λ (x : LineReply). Some x) (sym is))
refusal_filed s t r e (Err x) adds kept is = tt

-- what is served by one event is served
pub served_at_once : {E : Type 0} (s t : ProgramSeat) (r : ProgramRequest) (result : Result LineReply E) → IfOk result (λ reply. FilesReply s r reply t) → IfOk result (λ reply. FilesService s r reply t)
served_at_once s t r (Ok reply) h = inl h
served_at_once s t r (Err e) h = tt

-- what opened a job and was then finished is served
pub served_by_job : {E : Type 0} (s m t : ProgramSeat) (r : ProgramRequest) (job : ℕ) (shown : Map (List ℕ) ℤ) (result : Result LineReply E) → Adds s r (frozen job shown) m → IfOk result (λ reply. FilesReply m (finish job) reply t) → IfOk result (λ reply. FilesService s r reply t)
served_by_job s m t r job shown (Ok reply) adds (outcome, last, told) =
    inr (job, shown, outcome, then_filed s m t ((r, frozen job shown) ∷ []) ((finish job, outcome) ∷ []) (filed s r (frozen job shown) m adds refl) last, told)
served_by_job s m t r job shown (Err e) adds h = tt

module _ {P : Type 0} (answers : ScriptQuestion → Map (List ℕ) ℤ → P → Type 0) (answer_of : P → ProgramAnswer) (h : ℕ) (q : ScriptQuestion) where
  -- what a bulk call tells is shown by the finish of the job that its freeze opened
  told_by_job : (s m t : ProgramSeat) (opened : Result (Ticketed (List ℕ) ℤ ScriptQuestion) Refusal) (answer : Answer (List ℕ) ℤ Item) → Adds s (freeze h q) (answered ticket_outcome opened) m → EndsBulk answers answer_of m opened (Ok answer) t
      → FilesService s (freeze h q) (summary_reply (summary_of answer)) t
  told_by_job s m t (Err e) answer freezes (other, stays) = cc
  told_by_job s m t (Ok ticket) answer freezes (adds, told) =
      inr (ticket.job, ticket.frozen, finished (summary_of answer), then_filed s m t ((freeze h q, frozen ticket.job ticket.frozen) ∷ []) ((finish ticket.job, finished (summary_of answer)) ∷ []) (filed s (freeze h q) (frozen ticket.job ticket.frozen) m freezes refl) (filed m (finish ticket.job) (finished (summary_of answer)) t adds refl), refl)

  pub bulk_returned : (s t : ProgramSeat) (answer : Answer (List ℕ) ℤ Item) → AddsBulk answers answer_of h q s (Ok answer) t → FilesService s (freeze h q) (summary_reply (summary_of answer)) t
  bulk_returned s t answer bulk = told_by_job s bulk.between t bulk.opened answer bulk.freezes bulk.ends

  -- a bulk call that is refused files its freeze alone, if that is refused, and else the finish of its job too
  refused_at_once_or_by_job : {E : Type 0} (s m t : ProgramSeat) (opened : Result (Ticketed (List ℕ) ℤ ScriptQuestion) Refusal) (e : Refusal × Option (Ticketed (List ℕ) ℤ ScriptQuestion)) (result : Result LineReply E) → Adds s (freeze h q) (answered ticket_outcome opened) m
      → EndsBulk answers answer_of m opened (Err e) t → OnOk result (is_entry e.0 ≡ true) → IfOk result (λ reply. reply ≡ Refused e.0) → IfOk result (λ reply. FilesService s (freeze h q) reply t)
  refused_at_once_or_by_job s m t (Err f) e result freezes (is, stays) kept shown =
      let both : e ≡ (f, None) = cc in
      let same : f ≡ e.0 = ap (λ (x : Refusal × Option (Ticketed (List ℕ) ℤ ScriptQuestion)). x.0) (sym both) in
      let adds : Adds s (freeze h q) (refused e.0) t = subst (λ x. Adds s (freeze h q) (refused x) t) same (subst (λ x. Adds s (freeze h q) (refused f) x) (sym stays) freezes) in
      served_at_once s t (freeze h q) result (refusal_filed s t (freeze h q) e.0 result adds kept shown)
  refused_at_once_or_by_job s m t (Ok ticket) e result freezes (adds, back, why) kept shown =
      served_by_job s m t (freeze h q) ticket.job ticket.frozen result freezes (refusal_filed m t (finish ticket.job) e.0 result adds kept shown)

  pub bulk_refused : {E : Type 0} (s t : ProgramSeat) (e : Refusal × Option (Ticketed (List ℕ) ℤ ScriptQuestion)) (result : Result LineReply E) → AddsBulk answers answer_of h q s (Err e) t → OnOk result (is_entry e.0 ≡ true) → IfOk result (λ reply. reply ≡ Refused e.0)
      → IfOk result (λ reply. FilesService s (freeze h q) reply t)
  bulk_refused s t e result bulk kept shown = refused_at_once_or_by_job s bulk.between t bulk.opened e result bulk.freezes bulk.ends kept shown

-- the line of a statement other than getorelse, done by one event
done_at_once : (s t : ProgramSeat) (statement : Statement) (reply : LineReply) → or_else_in statement ≡ None → FilesReply s (request_for statement) reply t → FilesAnswer s statement reply t
done_at_once s t statement reply other (outcome, files, shown) =
    let ends : Ends statement outcome [] reply =
    elim (missing_or_done statement outcome) [
      | inl missing ↦ let is : None ≡ Some (missing.handle, missing.key, missing.value) = sym other ∙ ap or_else_in missing.statement_is in cc
      | inr (inl job) ↦ let none : None ≡ Some reply = sym (ap reply_to job.opened) ∙ shown in cc
      | inr (inr (from, to)) ↦ to reply shown
    ] in
    ((request_for statement, outcome) ∷ [], (outcome, [], refl, ends), files)

-- the freeze of a job is followed by its finish, whatever the statement
ends_by_finish : (statement : Statement) (job : ℕ) (shown : Map (List ℕ) ℤ) (outcome : ProgramOutcome) (reply : LineReply) → reply_to outcome ≡ Some reply → Ends statement (frozen job shown) ((finish job, outcome) ∷ []) reply
ends_by_finish (GetOrElse h k v) job shown outcome reply told = (outcome, refl, told)
ends_by_finish statement job shown outcome reply told = (outcome, refl, told)

-- the line of a statement that opens a job
done_by_job : (s t : ProgramSeat) (statement : Statement) (reply : LineReply) → FilesJob s (request_for statement) reply t → FilesAnswer s statement reply t
done_by_job s t statement reply (job, shown, outcome, files, told) =
    ((request_for statement, frozen job shown) ∷ (finish job, outcome) ∷ [], (frozen job shown, (finish job, outcome) ∷ [], refl, ends_by_finish statement job shown outcome reply told), files)

-- the line of a statement other than getorelse
done_as_served : (s t : ProgramSeat) (statement : Statement) (reply : LineReply) → or_else_in statement ≡ None → FilesService s (request_for statement) reply t → FilesAnswer s statement reply t
done_as_served s t statement reply other (inl once) = done_at_once s t statement reply other once
done_as_served s t statement reply other (inr job) = done_by_job s t statement reply job

-- a service of the statement's request is its answer
pub answered_as_served : {E : Type 0} (s t : ProgramSeat) (statement : Statement) (request : ProgramRequest) (result : Result LineReply E) → request ≡ request_for statement → None ≡ or_else_in statement
    → IfOk result (λ reply. FilesService s request reply t) → IfOk result (λ reply. FilesAnswer s statement reply t)
answered_as_served s t statement request (Ok reply) asked other served = done_as_served s t statement reply (sym other) (subst (λ r. FilesService s r reply t) asked served)
answered_as_served s t statement request (Err e) asked other served = tt

-- so is one event for it
pub answered_at_once : {E : Type 0} (s t : ProgramSeat) (statement : Statement) (request : ProgramRequest) (result : Result LineReply E) → request ≡ request_for statement → None ≡ or_else_in statement
    → IfOk result (λ reply. FilesReply s request reply t) → IfOk result (λ reply. FilesAnswer s statement reply t)
answered_at_once s t statement request result asked other served = answered_as_served s t statement request result asked other (served_at_once s t request result served)

-- a statement that is no getorelse has none
pub not_or_else : (statement : Statement) → ((handle : ℕ) (key : List ℕ) (value : ℤ) → statement ≡ GetOrElse handle key value → ⊥) → None ≡ or_else_in statement
not_or_else (GetOrElse handle key value) other = absurd (other handle key value refl)
not_or_else statement other = refl

-- the statement is a getorelse of these
is_or_else : (statement : Statement) (handle : ℕ) (key : List ℕ) (value : ℤ) → Some (handle, key, value) ≡ or_else_in statement → GetOrElse handle key value ≡ statement
is_or_else (GetOrElse h k v) handle key value is = let asked : ℕ × List ℕ × ℤ = (handle, key, value) in let stands : ℕ × List ℕ × ℤ = (h, k, v) in let same : asked ≡ stands = cc in (λ i. GetOrElse (same i).0 (same i).1 (same i).2)
is_or_else statement handle key value is = cc

-- the answer of a getorelse
pub answered_by_or_else : {E : Type 0} (s t : ProgramSeat) (statement : Statement) (handle : ℕ) (key : List ℕ) (value : ℤ) (result : Result LineReply E) → Some (handle, key, value) ≡ or_else_in statement
    → IfOk result (λ reply. FilesOrElse s handle key value reply t) → IfOk result (λ reply. FilesAnswer s statement reply t)
answered_by_or_else s t statement handle key value (Ok reply) is files = subst (λ x. FilesAnswer s x reply t) (is_or_else statement handle key value is) files
answered_by_or_else s t statement handle key value (Err e) is files = tt

module _ (handle : ℕ) (key : List ℕ) (value : ℤ) where
  -- the events of a getorelse whose get found nothing
  stored : (s m t : ProgramSeat) (o : ProgramOutcome) (reply : LineReply) → Adds s (on handle (get key)) (replied (old None)) m → Adds m (on handle (put_if_absent key value)) o t → is_filed o ≡ true → Makes (GetOrElse handle key value) ((on handle (get key), replied (old None)) ∷ (on handle (put_if_absent key value), o) ∷ []) reply → FilesOrElse s handle key value reply t
  stored s m t o reply first more kept makes_it =
      ((on handle (get key), replied (old None)) ∷ (on handle (put_if_absent key value), o) ∷ [], makes_it, then_filed s m t ((on handle (get key), replied (old None)) ∷ []) ((on handle (put_if_absent key value), o) ∷ []) (filed s (on handle (get key)) (replied (old None)) m first refl) (filed m (on handle (put_if_absent key value)) o t more kept))

  -- a getorelse whose second event returns a value
  put_found : {Z : Type 0} (s m t : ProgramSeat) (a : Arc ℤ Z) (own : ℤ) (o : ProgramOutcome) → Adds s (on handle (get key)) (replied (old None)) m → own ≡ value → Adds m (on handle (put_if_absent key own)) o t → AnswersPut {K = List ℕ} own o (Ok a) → FilesOrElse s handle key value (Found (arc_value a)) t
  put_found s m t a own (replied (old (Some v))) first is more gives =
      stored s m t (replied (old (Some v))) (Found (arc_value a)) first (subst (λ x. Adds m (on handle (put_if_absent key x)) (replied (old (Some v))) t) is more) refl
      (replied (old None), (on handle (put_if_absent key value), replied (old (Some v))) ∷ [], refl, (replied (old (Some v)), refl, ap (λ (x : ℤ). Some (Found x)) (sym gives)))
  put_found s m t a own (replied (old None)) first is more gives =
      stored s m t (replied (old None)) (Found (arc_value a)) first (subst (λ x. Adds m (on handle (put_if_absent key x)) (replied (old None)) t) is more) refl
      (replied (old None), (on handle (put_if_absent key value), replied (old None)) ∷ [], refl, (replied (old None), refl, ap (λ (x : ℤ). Some (Found x)) (sym is ∙ sym gives)))
  put_found s m t a own (replied (done b)) first is more gives = absurd gives
  put_found s m t a own (replied (count n)) first is more gives = absurd gives
  put_found s m t a own (replied cleared) first is more gives = absurd gives
  put_found s m t a own (refused e) first is more gives = cc
  put_found s m t a own o first is more gives = absurd gives

  -- one that is refused at its second event
  put_refused : (Z : Type 0) (s m t : ProgramSeat) (e : Refusal) (own : ℤ) (o : ProgramOutcome) → is_entry e ≡ true → Adds s (on handle (get key)) (replied (old None)) m → own ≡ value → Adds m (on handle (put_if_absent key own)) o t → AnswersPut {K = List ℕ} {Z = Z} own o (Err e) → FilesOrElse s handle key value (Refused e) t
  put_refused Z s m t e own (refused f) kept first is more gives =
      let same : e ≡ f = cc in
      stored s m t (refused f) (Refused e) first (subst (λ x. Adds m (on handle (put_if_absent key x)) (refused f) t) is more) (sym (ap is_entry same) ∙ kept)
      (replied (old None), (on handle (put_if_absent key value), refused f) ∷ [], refl, (refused f, refl, ap (λ (x : Refusal). Some (Refused x)) (sym same)))
  put_refused Z s m t e own (replied (old (Some v))) kept first is more gives = absurd gives
  put_refused Z s m t e own (replied (old None)) kept first is more gives = absurd gives
  put_refused Z s m t e own (replied (done b)) kept first is more gives = absurd gives
  put_refused Z s m t e own (replied (count n)) kept first is more gives = absurd gives
  put_refused Z s m t e own (replied cleared) kept first is more gives = absurd gives
  put_refused Z s m t e own o kept first is more gives = absurd gives

module _ (makes : ℤ → Type 0) (handle : ℕ) (key : List ℕ) (value : ℤ) (only : (v : ℤ) → makes v → v ≡ value) where
  -- a getorelse that is returned a value
  or_else_found : {Z : Type 0} (s m t : ProgramSeat) (a : Arc ℤ Z) (o : ProgramOutcome) → Adds s (on handle (get key)) o m → AnswersGet makes handle key m o (Ok a) t → FilesOrElse s handle key value (Found (arc_value a)) t
  or_else_found s m t a (replied (old (Some v))) first (gives, stays) =
      ((on handle (get key), replied (old (Some v))) ∷ [], (replied (old (Some v)), [], refl, (refl, ap (λ (x : ℤ). Some (Found x)) (sym gives))), subst (λ x. Files s ((on handle (get key), replied (old (Some v))) ∷ []) x) (sym stays) (filed s (on handle (get key)) (replied (old (Some v))) m first refl))
  or_else_found s m t a (replied (old None)) first (own, made_it, (o, more, gives)) = put_found handle key value s m t a own o first (only own made_it) more gives
  or_else_found s m t a (replied (done b)) first answers = absurd answers
  or_else_found s m t a (replied (count n)) first answers = absurd answers
  or_else_found s m t a (replied cleared) first answers = absurd answers
  or_else_found s m t a (refused e) first answers = let no : Ok a ≡ Err e = answers.0 in cc
  or_else_found s m t a o first answers = absurd answers

  -- one that is refused
  or_else_refused : (Z : Type 0) (s m t : ProgramSeat) (e : Refusal) (o : ProgramOutcome) → is_entry e ≡ true → Adds s (on handle (get key)) o m → AnswersGet {Z = Z} makes handle key m o (Err e) t → FilesOrElse s handle key value (Refused e) t
  or_else_refused Z s m t e (refused f) kept first (is, stays) =
      let same : e ≡ f = cc in
      ((on handle (get key), refused f) ∷ [], (refused f, [], refl, (refl, ap (λ (x : Refusal). Some (Refused x)) (sym same))), subst (λ x. Files s ((on handle (get key), refused f) ∷ []) x) (sym stays) (filed s (on handle (get key)) (refused f) m first (sym (ap is_entry same) ∙ kept)))
  or_else_refused Z s m t e (replied (old (Some v))) kept first answers = absurd answers.0
  or_else_refused Z s m t e (replied (old None)) kept first (own, made_it, (o, more, gives)) = put_refused handle key value Z s m t e own o kept first (only own made_it) more gives
  or_else_refused Z s m t e (replied (done b)) kept first answers = absurd answers
  or_else_refused Z s m t e (replied (count n)) kept first answers = absurd answers
  or_else_refused Z s m t e (replied cleared) kept first answers = absurd answers
  or_else_refused Z s m t e o kept first answers = absurd answers

  -- what get_or_else_update gives is the reply of a getorelse
  pub or_else_value : {Z : Type 0} (s t : ProgramSeat) (a : Arc ℤ Z) → GetsOrElse makes handle key s (Ok a) t → FilesOrElse s handle key value (Found (arc_value a)) t
  or_else_value s t a (o, m, first, answers) = or_else_found s m t a o first answers

  pub or_else_refusal : (Z : Type 0) {E : Type 0} (s t : ProgramSeat) (e : Refusal) (result : Result LineReply E) → GetsOrElse {Z = Z} makes handle key s (Err e) t → OnOk result (is_entry e ≡ true) → IfOk result (λ reply. reply ≡ Refused e) → IfOk result (λ reply. FilesOrElse s handle key value reply t)
  or_else_refusal Z s t e (Ok reply) (o, m, first, answers) kept is = subst (λ x. FilesOrElse s handle key value x t) (sym is) (or_else_refused Z s m t e o kept first answers)
  or_else_refusal Z s t e (Err x) gets kept is = tt
