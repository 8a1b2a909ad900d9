-- What the step that was made says of a text.
use Rattle.std.proofs.Common.{◌≡◌, Bool, true, false, ℕ, ◌∙◌, List, Option, Some, None, Result, Ok, Err, IfOk, refl, sym, ap}
use Rattle.std.specs.Prelude.{ℤ, IsTrue, ◌↔◌, ◌++◌, MatchBool, OnOk, codes}
use Rattle.std.specs.Fmt.{decimal}
use Rattle.versions.specs.Map.{Map}
use Rattle.versions.specs.declared.refusal.Refusal.{Refusal}
use Rattle.versions.specs.declared.refusal.Refusal.TheVariants.{NoMemory}
use Rattle.handles.specs.declared.call.Call.{Call}
use Rattle.handles.specs.declared.call.Call.TheVariants.{Open, Snapshot, Drop, On}
use Rattle.handles.specs.declared.call_reply.CallReply.{CallReply}
use Rattle.handles.specs.Views.{IsStep, call_outcome, lacks_memory, outcome_of, request_of}
use Rattle.journal.specs.Answers as journal_answers
use Rattle.questions.specs.Queries.{ScriptQuestion}
use Rattle.handles.specs.Machine.{Granted, open_handle, snapshot, drop_handle, on, view, freeze, finish, abandon, worker_step}
use Rattle.handles.specs.Machine.{Step, made, replied, viewed, frozen, finished, unfinished, refused, worked}
use Rattle.journal.specs.Journals.{is_filed}
use Rattle.script.specs.Replies.{text_of}
use Rattle.script.specs.declared.reply.LineReply.{LineReply}
use Rattle.questions.specs.Program.{program, ProgramState, ProgramRequest, ProgramOutcome, ProgramSummary, reply_to}
use Rattle.questions.specs.Laws.{is_settled_at_once}
use Rattle.questions.proofs.OneStep.{granted_once, one_step}
use Rattle.journal_text.specs.Calls.{outcome_text, reply_text}
use Rattle.audit.specs.Answers.{Answers, NoneAnswers, IsReplyTo, IsShownAs, IsTextOf}

-- the outcome is that of no finish
abbrev pub IsNoFinish : ProgramOutcome → Type 0
IsNoFinish (finished b) = ⊥
IsNoFinish o = Unit {0}

-- a request that is settled at once is answered as no finish is
not_granted : (r : ProgramRequest) (s t : ProgramState) (b : ProgramSummary) → is_settled_at_once r ≡ true → Granted program s r (finished b) t → ⊥
not_granted (finish j) s t b once g = cc
not_granted worker_step s t b once g = g
not_granted (open_handle h) s t b once g = g
not_granted (snapshot h to) s t b once g = g
not_granted (drop_handle h) s t b once g = g
not_granted (on h c) s t b once g = g
not_granted (view h) s t b once g = g
not_granted (freeze h q) s t b once g = g
not_granted (abandon j) s t b once g = g

no_finish : (r : ProgramRequest) (s t : ProgramState) (o : ProgramOutcome) → is_settled_at_once r ≡ true → Step program s r o t → IsNoFinish o
no_finish r s t (finished b) once step = not_granted r s t b once step.1
no_finish r s t made once step = tt
no_finish r s t (replied y) once step = tt
no_finish r s t (viewed m) once step = tt
no_finish r s t (frozen j m) once step = tt
no_finish r s t unfinished once step = tt
no_finish r s t (refused e) once step = tt
no_finish r s t worked once step = tt

-- an outcome that a reply shows has its text, but of a finish
pub text_shown : (o : ProgramOutcome) (reply : LineReply) → IsNoFinish o → reply_to o ≡ Some reply → outcome_text o ≡ text_of reply
text_shown (frozen j m) reply other e = cc
text_shown made reply other e = ap reply_text e
text_shown (replied y) reply other e = ap reply_text e
text_shown (viewed m) reply other e = ap reply_text e
text_shown (finished b) reply other e = absurd other
text_shown (refused r) reply other e = ap reply_text e
text_shown unfinished reply other e = cc
text_shown worked reply other e = cc

-- of a request with one outcome no other text is an answer
pub unanswered : (r : ProgramRequest) (s t : ProgramState) (o : ProgramOutcome) (reply : List ℕ) → is_settled_at_once r ≡ true → Step program s r o t → (is_filed o ≡ true → reply ≡ outcome_text o → ⊥) → NoneAnswers s r reply
unanswered r s t o reply once step other u a =
    let same = one_step r (granted_once r once) s t u o a.outcome step a.step in
    other (ap is_filed same.0 ∙ a.filed) (a.text ∙ ap outcome_text (sym same.0))

-- the outcome is shown by the reply, which has this text
pub answered : (r : ProgramRequest) (s t : ProgramState) (o : ProgramOutcome) (shown : LineReply) (reply : List ℕ) → is_settled_at_once r ≡ true → Step program s r o t → IsReplyTo o (Some shown) → reply ≡ text_of shown → Answers s r reply t
answered r s t o shown reply once step is text = record { outcome = o; step = step; filed = is.0; text = text ∙ sym (text_shown o shown (no_finish r s t o once step) is.1) }

-- it is shown by a reply of another text
pub otherwise : (r : ProgramRequest) (s t : ProgramState) (o : ProgramOutcome) (shown : LineReply) (reply : List ℕ) → is_settled_at_once r ≡ true → Step program s r o t → IsReplyTo o (Some shown) → (reply ≡ text_of shown → ⊥) → NoneAnswers s r reply
otherwise r s t o shown reply once step is other = unanswered r s t o reply once step (λ filed text. other (text ∙ text_shown o shown (no_finish r s t o once step) is.1))

-- it is no entry's
pub unfiled : (r : ProgramRequest) (s t : ProgramState) (o : ProgramOutcome) (reply : List ℕ) → is_settled_at_once r ≡ true → Step program s r o t → is_filed o ≡ false → NoneAnswers s r reply
unfiled r s t o reply once step not = unanswered r s t o reply once step (λ filed text. let bad : true ≡ false = sym filed ∙ not in cc)

-- ---- what a table answers

-- a call that did not want memory made a step
pub step_of : {T : Type 0} (s t : ProgramState) (r : ProgramRequest) (shown : T → ProgramOutcome) (answer : Result T Refusal) → lacks_memory answer ≡ false → IsStep program s r shown answer t → Step program s r (journal_answers.answered shown answer) t
step_of s t r shown (Ok x) some step = step
step_of s t r shown (Err NoMemory) some step = cc
step_of s t r shown (Err e) some step = step

pub told_so : (r : ProgramRequest) (s t : ProgramState) (o : ProgramOutcome) (shown : Option LineReply) (text : List ℕ) (yes : Bool) → is_settled_at_once r ≡ true → Step program s r o t → IsReplyTo o shown → IsTrue yes ↔ IsShownAs shown text
    → MatchBool yes (Answers s r text t) (NoneAnswers s r text)
told_so r s t o (Some reply) text true once step is tells = answered r s t o reply text once step is (tells.0 refl)
told_so r s t o (Some reply) text false once step is tells = otherwise r s t o reply text once step is (λ e. let bad : false ≡ true = tells.1 e in cc)
told_so r s t o None text true once step is tells = absurd (tells.0 refl)
told_so r s t o None text false once step is tells = unfiled r s t o text once step is

-- the same of what is answered, if memory was there
pub read_so : {E T : Type 0} (r : ProgramRequest) (s t : ProgramState) (by : T → ProgramOutcome) (answer : Result T Refusal) (shown : Option LineReply) (text : List ℕ) (read : Result Bool E) → is_settled_at_once r ≡ true → lacks_memory answer ≡ false → IsStep program s r by answer t
    → IsReplyTo (journal_answers.answered by answer) shown → IfOk read (λ yes. IsTrue yes ↔ IsShownAs shown text) → IfOk read (λ yes. MatchBool yes (Answers s r text t) (NoneAnswers s r text))
read_so r s t by answer shown text (Ok b) once some step is tells = told_so r s t (journal_answers.answered by answer) shown text b once (step_of s t r by answer some step) is tells
read_so r s t by answer shown text (Err e) once some step is tells = tells

pub call_settled : (call : Call (List ℕ) ℤ) → is_settled_at_once (request_of {Q = ScriptQuestion} call) ≡ true
call_settled (Open h) = refl
call_settled (Snapshot h to) = refl
call_settled (Drop h) = refl
call_settled (On h c) = refl

pub same_outcome : (answer : Result (CallReply ℤ) Refusal) → ◌≡◌ {A = ProgramOutcome} (outcome_of answer) (journal_answers.answered (λ (y : CallReply ℤ). call_outcome y) answer)
same_outcome (Ok y) = refl
same_outcome (Err e) = refl

-- the text of a refusal is that of the reply that shows it
pub shown_text : (e : Refusal) (shown : Option LineReply) (text : List ℕ) (answer : Bool) → IsReplyTo (refused e) shown → IsTrue answer ↔ IsShownAs shown text → IsTrue answer ↔ IsTextOf (refused e) text
shown_text e (Some reply) text answer is tells =
    let same : outcome_text (refused e) ≡ text_of reply = text_shown (refused e) reply tt is.1 in
    (λ h. (is.0, tells.0 h ∙ sym same), λ h. tells.1 (h.1 ∙ same))
shown_text e None text answer is tells = (λ h. absurd (tells.0 h), λ h. let bad : true ≡ false = sym h.0 ∙ is in cc)

-- the same of what is read, if memory was there
pub shown_so : {E : Type 0} (e : Refusal) (shown : Option LineReply) (text : List ℕ) (read : Result Bool E) → IsReplyTo (refused e) shown → IfOk read (λ answer. IsTrue answer ↔ IsShownAs shown text) → IfOk read (λ answer. IsTrue answer ↔ IsTextOf (refused e) text)
shown_so e shown text (Ok answer) is tells = shown_text e shown text answer is tells
shown_so e shown text (Err f) is tells = tells

-- the text of an opened job
pub job_so : {E : Type 0} (j : ℕ) (m : Map (List ℕ) ℤ) (text : List ℕ) (read : Result Bool E) → IfOk read (λ answer. IsTrue answer ↔ (text ≡ codes "job " ++ decimal j)) → IfOk read (λ answer. IsTrue answer ↔ IsTextOf (frozen j m) text)
job_so j m text (Ok answer) tells = (λ h. (refl, tells.0 h), λ h. tells.1 h.1)
job_so j m text (Err e) tells = tells

-- the outcome of the step has the text, or no outcome has it
pub texted_so : {E T : Type 0} (r : ProgramRequest) (s t : ProgramState) (by : T → ProgramOutcome) (answer : Result T Refusal) (text : List ℕ) (read : Result Bool E) → is_settled_at_once r ≡ true → OnOk read (lacks_memory answer ≡ false) → IsStep program s r by answer t
    → IfOk read (λ is. IsTrue is ↔ IsTextOf (journal_answers.answered by answer) text) → IfOk read (λ is. MatchBool is (Answers s r text t) (NoneAnswers s r text))
texted_so r s t by answer text (Ok true) once some step tells =
    let o = tells.0 refl in
    record { outcome = journal_answers.answered by answer; step = step_of s t r by answer some step; filed = o.0; text = o.1 }
texted_so r s t by answer text (Ok false) once some step tells =
    unanswered r s t (journal_answers.answered by answer) text once (step_of s t r by answer some step) (λ filed e. let bad : false ≡ true = tells.1 (filed, e) in cc)
texted_so r s t by answer text (Err e) once some step tells = tells
