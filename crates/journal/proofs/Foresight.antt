-- What was foreseen is what the table's call then did.
use Rattle.std.proofs.Common.{◌≡◌, ◌+◌, ◌∙◌, true, false, None, Some, ap, refl, sym, subst}
use Rattle.std.specs.Prelude.{Result, Ok, Err, IfErr, IsErrAnd, if◌then◌else◌}
use Rattle.versions.specs.declared.refusal.Refusal.{Refusal}
use Rattle.versions.specs.declared.refusal.Refusal.TheVariants.{NoHandle, Taken, Full, NoJob, Unfinished, NoWorker, TooManyJobs, JournalFull, NoMemory, BadNumber}
use Rattle.handles.specs.declared.call.Call.{Call}
use Rattle.handles.specs.declared.call.Call.TheVariants.{Open, Snapshot, Drop, On}
use Rattle.handles.specs.Machine.{Kind, State, Request, is_freeze, job_of, Outcome, made, replied, viewed, frozen, finished, unfinished, refused, refusal, worked, is_entry, Step}
use Rattle.handles.specs.declared.call_reply.CallReply.{CallReply}
use Rattle.handles.specs.declared.call_reply.CallReply.TheVariants.{Unit, Reply}
use Rattle.handles.specs.Views.{IsStep, Foresees, call_outcome, is_counted, lacks_memory, outcome_of, request_of}
use Rattle.handles.specs.Laws.{ForeseenIsStep, is_settled_by_state}
use Rattle.journal.specs.Answers.{answered, IsUnfiled}
use Rattle.journal.specs.Journals.{is_filed}
use Rattle.journal.proofs.Refusing.{both_ways, never_unfinished}

module _ {K V Q A B : Type 0} (kind : Kind K V Q A B) where
  -- the state that a refusal which is due leaves
  abbrev left : (s : State K V Q) (e : Refusal) → State K V Q
  left s e = record s { entries = if is_entry e then s.entries + 1 else s.entries }

  -- an answer that was foreseen, and makes an entry, is a step's outcome
  foreseen_step : {T : Type 0} (s : State K V Q) (r : Request K V Q) (shown : T → Outcome K V B) (a : Result T Refusal) → Foresees kind s r shown a → is_counted a ≡ true → (u : State K V Q) × Step kind s r (answered shown a) u
  foreseen_step s r shown (Ok x) sees counts = sees
  foreseen_step s r shown (Err NoHandle) sees counts = (left s NoHandle, (sees, refl))
  foreseen_step s r shown (Err Taken) sees counts = (left s Taken, (sees, refl))
  foreseen_step s r shown (Err Full) sees counts = (left s Full, (sees, refl))
  foreseen_step s r shown (Err NoJob) sees counts = cc
  foreseen_step s r shown (Err Unfinished) sees counts = cc
  foreseen_step s r shown (Err NoWorker) sees counts = (left s NoWorker, (sees, refl))
  foreseen_step s r shown (Err TooManyJobs) sees counts = (left s TooManyJobs, (sees, refl))
  foreseen_step s r shown (Err JournalFull) sees counts = cc
  foreseen_step s r shown (Err NoMemory) sees counts = cc
  foreseen_step s r shown (Err BadNumber) sees counts = (left s BadNumber, (sees, refl))

  -- what a call did that had memory is a step
  made_step : {T : Type 0} (s t : State K V Q) (r : Request K V Q) (shown : T → Outcome K V B) (b : Result T Refusal) → IsStep kind s r shown b t → lacks_memory b ≡ false → (o : Outcome K V B) × Step kind s r o t
  made_step s t r shown (Ok x) step has = (shown x, step)
  made_step s t r shown (Err NoHandle) step has = (refused NoHandle, step)
  made_step s t r shown (Err Taken) step has = (refused Taken, step)
  made_step s t r shown (Err Full) step has = (refused Full, step)
  made_step s t r shown (Err NoJob) step has = (refused NoJob, step)
  made_step s t r shown (Err Unfinished) step has = (refused Unfinished, step)
  made_step s t r shown (Err NoWorker) step has = (refused NoWorker, step)
  made_step s t r shown (Err TooManyJobs) step has = (refused TooManyJobs, step)
  made_step s t r shown (Err JournalFull) step has = (refused JournalFull, step)
  made_step s t r shown (Err NoMemory) step has = cc
  made_step s t r shown (Err BadNumber) step has = (refused BadNumber, step)

  -- a call that lacks memory leaves the state as it was
  pub stays_where_lacking : {T : Type 0} (s t : State K V Q) (r : Request K V Q) (shown : T → Outcome K V B) (b : Result T Refusal) → IsStep kind s r shown b t → lacks_memory b ≡ true → t ≡ s
  stays_where_lacking s t r shown (Ok x) step lacks = cc
  stays_where_lacking s t r shown (Err NoMemory) step lacks = step
  stays_where_lacking s t r shown (Err NoHandle) step lacks = cc
  stays_where_lacking s t r shown (Err Taken) step lacks = cc
  stays_where_lacking s t r shown (Err Full) step lacks = cc
  stays_where_lacking s t r shown (Err NoJob) step lacks = cc
  stays_where_lacking s t r shown (Err Unfinished) step lacks = cc
  stays_where_lacking s t r shown (Err NoWorker) step lacks = cc
  stays_where_lacking s t r shown (Err TooManyJobs) step lacks = cc
  stays_where_lacking s t r shown (Err JournalFull) step lacks = cc
  stays_where_lacking s t r shown (Err BadNumber) step lacks = cc

  -- the step that a call made has the outcome that was foreseen
  pub step_as_foreseen : {T : Type 0} (s t : State K V Q) (r : Request K V Q) (shown : T → Outcome K V B) (a b : Result T Refusal)
      → ForeseenIsStep kind → is_settled_by_state r ≡ true → Foresees kind s r shown a → is_counted a ≡ true
      → IsStep kind s r shown b t → lacks_memory b ≡ false → Step kind s r (answered shown a) t
  step_as_foreseen s t r shown a b law settled sees counts step has =
      let foreseen = foreseen_step s r shown a sees counts in
      let made = made_step s t r shown b step has in
      law s t foreseen.0 r (answered shown a) made.0 settled foreseen.1 made.1

  -- an answer that makes an entry shows an outcome that is filed
  pub filed_as_counted : {T : Type 0} (shown : T → Outcome K V B) (a : Result T Refusal) → ((x : T) → is_filed (shown x) ≡ true) → is_counted a ≡ true → is_filed (answered shown a) ≡ true
  filed_as_counted shown (Ok x) all counts = all x
  filed_as_counted shown (Err e) all counts = counts

  unfiled : {T : Type 0} (s : State K V Q) (r : Request K V Q) (shown : T → Outcome K V B) (e : Refusal) → Foresees kind s r shown (Err e) → is_entry e ≡ false → IsUnfiled kind s r e
  unfiled s r shown NoHandle sees out = cc
  unfiled s r shown Taken sees out = cc
  unfiled s r shown Full sees out = cc
  unfiled s r shown NoJob sees out = sees
  unfiled s r shown Unfinished sees out = absurd (never_unfinished kind s r sees)
  unfiled s r shown NoWorker sees out = cc
  unfiled s r shown TooManyJobs sees out = cc
  unfiled s r shown JournalFull sees out = sees
  unfiled s r shown NoMemory sees out = λ e is. both_ways e (refusal kind s r) is sees
  unfiled s r shown BadNumber sees out = cc

  -- why what was foreseen makes no entry
  pub unfiled_as_foreseen : {T : Type 0} (s : State K V Q) (r : Request K V Q) (shown : T → Outcome K V B) (a : Result T Refusal) (e : Refusal) → Foresees kind s r shown a → a ≡ Err e → is_entry e ≡ false → IsUnfiled kind s r e
  unfiled_as_foreseen {T = T} s r shown a e sees is out = unfiled s r shown e (subst (λ (x : Result T Refusal). Foresees kind s r shown x) is sees) out

  -- a refusal that is due is that of the step's outcome
  due_of_step : (s t : State K V Q) (r : Request K V Q) (o : Outcome K V B) → Step kind s r o t → is_filed o ≡ true → (e : Refusal) → refusal kind s r ≡ Some e → is_entry e ≡ true
  due_of_step s t r (refused f) step filed e is = let both : Some e ≡ Some f = sym is ∙ step.0 in let same : e ≡ f = cc in ap is_entry same ∙ filed
  due_of_step s t r made step filed e is = both_ways e (refusal kind s r) is step.0
  due_of_step s t r (replied y) step filed e is = both_ways e (refusal kind s r) is step.0
  due_of_step s t r (viewed m) step filed e is = both_ways e (refusal kind s r) is step.0
  due_of_step s t r (frozen j m) step filed e is = both_ways e (refusal kind s r) is step.0
  due_of_step s t r (finished b) step filed e is = both_ways e (refusal kind s r) is step.0
  due_of_step s t r unfinished step filed e is = cc
  due_of_step s t r worked step filed e is = cc

  -- where memory is wanting for what was foreseen, no refusal was due that is no entry
  pub wanting_as_foreseen : {T : Type 0} (s : State K V Q) (r : Request K V Q) (shown : T → Outcome K V B) (a : Result T Refusal) → ((x : T) → is_filed (shown x) ≡ true) → Foresees kind s r shown a → is_counted a ≡ true → IsUnfiled kind s r NoMemory
  wanting_as_foreseen s r shown a all sees counts =
      let step = foreseen_step s r shown a sees counts in
      due_of_step s step.0 r (answered shown a) step.1 (filed_as_counted shown a all counts)

module _ {K V : Type 0} where
  -- a call is neither a freeze, nor the end of a job
  pub call_opens_no_job : (Q : Type 0) (c : Call K V) → is_freeze (request_of {Q = Q} c) ≡ false
  call_opens_no_job Q (Open h) = refl
  call_opens_no_job Q (Snapshot h to) = refl
  call_opens_no_job Q (Drop h) = refl
  call_opens_no_job Q (On h c) = refl

  pub call_names_no_job : (Q : Type 0) (c : Call K V) → job_of (request_of {Q = Q} c) ≡ None
  call_names_no_job Q (Open h) = refl
  call_names_no_job Q (Snapshot h to) = refl
  call_names_no_job Q (Drop h) = refl
  call_names_no_job Q (On h c) = refl

-- the response to a call, as its result shows it
pub outcome_answered : {K V B : Type 0} (a : Result (CallReply V) Refusal) → outcome_of {K = K} {B = B} a ≡ answered call_outcome a
outcome_answered (Ok y) = refl
outcome_answered (Err e) = refl

-- the response to a call is filed
pub call_is_filed : (K V B : Type 0) (y : CallReply V) → is_filed (call_outcome {K = K} {B = B} y) ≡ true
call_is_filed K V B Unit = refl
call_is_filed K V B (Reply y) = refl

-- what holds of an error holds of the result that has it
pub told_err : {T : Type 0} (P : Refusal → Type 0) (r : Result T Refusal) (e : Refusal) → IsErrAnd r (λ x. x ≡ e) → P e → IfErr r P
told_err P (Ok x) e is p = tt
told_err P (Err x) e is p = subst P (sym is) p
