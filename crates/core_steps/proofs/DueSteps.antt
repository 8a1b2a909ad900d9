-- A step that wants memory is refused for no other reason, and is one that takes some.
use Rattle.std.proofs.Common.{◌≡◌, Bool, true, false, refl, sym, ◌∙◌, subst}
use Rattle.std.specs.Prelude.{Result, Ok, Err, OnErr}
use Rattle.versions.specs.Map.{Map}
use Rattle.versions.specs.declared.refusal.Refusal.{Refusal}
use Rattle.versions.specs.declared.refusal.Refusal.TheVariants.{NoHandle, Taken, Full, NoJob, Unfinished, NoWorker, TooManyJobs, JournalFull, NoMemory, BadNumber}
use Rattle.trie_shape.specs.declared.no_memory.NoMemory as want
use Rattle.handles.specs.declared.call_reply.CallReply.{CallReply}
use Rattle.handles.specs.Machine.{Kind, Request, open_handle, snapshot, drop_handle, on, view, freeze, finish, abandon, worker_step}
use Rattle.handles.specs.Views.{AnswersWithoutMemory, lacks_memory, request_of}
use Rattle.handles.specs.declared.call.Call.{Call}
use Rattle.handles.specs.declared.call.Call.TheVariants.{Open, Snapshot, Drop, On}
use Rattle.core_steps.specs.declared.outcome.Outcome.{Outcome}
use Rattle.core_steps.specs.Cores.{CoreState, Division, of_client}
use Rattle.core_steps.specs.Steps.{MayFinish, refused_outcome, outcome_of_call, takes_no_memory, outcome_of_view}

-- what holds in any case holds at an error
pub at_err : {A E P : Type 0} (result : Result A E) → P → OnErr result P
at_err (Ok x) p = tt
at_err (Err e) p = p

-- what follows at an error
pub if_err : {A E : Type 0} (P Q : Type 0) (result : Result A E) → (P → Q) → OnErr result P → OnErr result Q
if_err P Q (Ok x) f p = tt
if_err P Q (Err e) f p = f p

clash : {P : Type 0} → true ≡ false → P
clash h = cc

-- a call that takes no memory never lacks it, so one that lacks it takes some
taking_some : (free lacking : Bool) → (free ≡ true → lacking ≡ false) → lacking ≡ true → free ≡ false
taking_some false lacking never lacks = refl
taking_some true lacking never lacks = clash (sym lacks ∙ never refl)

-- a request for which the table lacks memory takes some of the core
pub request_takes : {K V Q A B T : Type 0} (kind : Kind K V Q A B) (r : Request K V Q) (answer : Result T Refusal) → AnswersWithoutMemory kind r answer → lacks_memory answer ≡ true → takes_no_memory (of_client r) ≡ false
request_takes kind (finish j) answer never lacks = refl
request_takes kind (open_handle h) answer never lacks = refl
request_takes kind (snapshot h to) answer never lacks = refl
request_takes kind (view h) answer never lacks = refl
request_takes kind (freeze h q) answer never lacks = refl
request_takes kind worker_step answer never lacks = refl
request_takes kind (drop_handle h) answer never lacks = taking_some _ _ never lacks
request_takes kind (abandon j) answer never lacks = taking_some _ _ never lacks
request_takes kind (on h x) answer never lacks = taking_some _ _ never lacks

-- a call is no finish
pub call_may : {K V Q : Type 0} (division : Division K V Q) (s : CoreState K V Q) (c : Call K V) → MayFinish division s (of_client (request_of c))
call_may division s (Open h) = tt
call_may division s (Snapshot h to) = tt
call_may division s (Drop h) = tt
call_may division s (On h c) = tt

module _ {K V I : Type 0} (P : Type 0) (result : Result (Outcome K V I) want.NoMemory) where
  -- the outcome of a refusal by the table, where P holds if that is because memory ran out
  pub due_refused : (e : Refusal) → result ≡ refused_outcome e → (lacks_memory {T = Unit {0}} (Err e) ≡ true → P) → OnErr result P
  due_refused e told due = subst (λ r. OnErr r P) (sym told) (by_case e due)
    where
      by_case : (f : Refusal) → (lacks_memory {T = Unit {0}} (Err f) ≡ true → P) → OnErr (refused_outcome {K = K} {V = V} {I = I} f) P
      by_case NoHandle due = tt
      by_case Taken due = tt
      by_case Full due = tt
      by_case NoJob due = tt
      by_case Unfinished due = tt
      by_case NoWorker due = tt
      by_case TooManyJobs due = tt
      by_case JournalFull due = tt
      by_case NoMemory due = due refl
      by_case BadNumber due = tt

  -- the same where the table never wants memory
  pub never_wanting : (e : Refusal) → result ≡ refused_outcome e → lacks_memory {T = Unit {0}} (Err e) ≡ false → OnErr result P
  never_wanting e told never = due_refused e told (λ lacks. clash (sym lacks ∙ never))

  -- the outcome of a call, and of a view
  pub due_called : (answer : Result (CallReply V) Refusal) → result ≡ outcome_of_call answer → (lacks_memory answer ≡ true → P) → OnErr result P
  due_called (Ok y) told due = subst (λ r. OnErr r P) (sym told) tt
  due_called (Err e) told due = due_refused e told due

  pub due_viewed : (answer : Result (Map K V) Refusal) → result ≡ outcome_of_view answer → (lacks_memory answer ≡ true → P) → OnErr result P
  due_viewed (Ok m) told due = subst (λ r. OnErr r P) (sym told) tt
  due_viewed (Err e) told due = due_refused e told due
