-- What the finish of a job may be answered.
use Rattle.std.proofs.Common.{◌≡◌, true, false, ℕ, ◌∙◌, inl, inr, List, Some, None, Result, Ok, Err, IfOk, refl, sym, ap, subst}
use Rattle.std.specs.Prelude.{ℤ, MatchBool}
use Rattle.std.specs.Result.{is_ok}
use Rattle.versions.specs.declared.refusal.Refusal.{Refusal}
use Rattle.versions.specs.declared.refusal.Refusal.TheVariants.{NoJob}
use Rattle.handles.specs.Machine.{Step, Job, job_at, refusal, finish, finished, refused}
use Rattle.journal.specs.Journals.{is_filed}
use Rattle.questions.specs.Queries.{ScriptQuestion, answers}
use Rattle.questions.specs.Program.{program, ProgramState, ProgramOutcome, ProgramSummary}
use Rattle.handles.specs.Views.{IsStep, lacks_memory}
use Rattle.questions.proofs.OneStep.{Settled, settled}
use Rattle.journal_text.specs.Calls.{outcome_text}
use Rattle.audit.specs.Answers.{Answers, NoneAnswers, NoneInReply}
use Rattle.audit.proofs.OneState.{finish_outcome}
use Rattle.audit.proofs.JudgedLemmas.{step_of}

abbrev ScriptJob : Type 0
ScriptJob = Job (List ℕ) ℤ ScriptQuestion

-- where no such job is open, a finish is refused so
no_job : (s : ProgramState) (j : ℕ) → job_at s j ≡ None → refusal program s (finish j) ≡ Some NoJob
no_job s j none = rw none refl

open_job : (s : ProgramState) (j : ℕ) (job : ScriptJob) → job_at s j ≡ Some job → refusal program s (finish j) ≡ None
open_job s j job there = rw there refl

refused_none : (s : ProgramState) (j : ℕ) (e : Refusal) (o : ProgramOutcome) → job_at s j ≡ None → is_filed o ≡ true → o ≡ refused e → refusal program s (finish j) ≡ Some e → ⊥
refused_none s j e o none filed is why =
    let same : Some e ≡ Some NoJob = sym why ∙ no_job s j none in
    let name : e ≡ NoJob = cc in
    let bad : true ≡ false = sym filed ∙ ap is_filed (is ∙ ap (λ (x : Refusal). refused x) name) in
    cc

none_settled : (s t : ProgramState) (j : ℕ) (o : ProgramOutcome) → job_at s j ≡ None → is_filed o ≡ true → Settled s (finish j) o t → ⊥
none_settled s t j o none filed (inl (e, is, why, left)) = refused_none s j e o none filed is why
none_settled s t j o none filed (inr (clear, g)) =
    let bad : Some NoJob ≡ None = sym (no_job s j none) ∙ clear in
    cc

-- where no such job is open, no entry tells of its end
pub unopened : (s : ProgramState) (j : ℕ) (text : List ℕ) → job_at s j ≡ None → NoneAnswers s (finish j) text
unopened s j text none t a = none_settled s t j a.outcome none a.filed (settled s (finish j) a.outcome t a.step)

some_settled : (s t : ProgramState) (j : ℕ) (job : ScriptJob) (text : List ℕ) (o : ProgramOutcome) → job_at s j ≡ Some job → NoneInReply job.query job.frozen text → is_filed o ≡ true → text ≡ outcome_text o → Settled s (finish j) o t → ⊥
some_settled s t j job text o there none filed is (inl (e, name, why, left)) =
    let bad : Some e ≡ None = sym why ∙ open_job s j job there in
    cc
some_settled s t j job text o there none filed is (inr (clear, g)) =
    let f = finish_outcome s j o t filed g in
    let named : Some f.2.job ≡ Some job = sym f.2.named ∙ there in
    let same : f.2.job ≡ job = cc in
    none f.2.answer (subst (λ (x : ScriptJob). answers x.query x.frozen f.2.answer) same f.2.is_answer) (is ∙ ap outcome_text (f.1 ∙ ap (λ (b : ProgramSummary). finished b) f.2.told))

-- where no answer of its query has this reply, no entry of its end has it
pub untold : (s : ProgramState) (j : ℕ) (job : ScriptJob) (text : List ℕ) → job_at s j ≡ Some job → NoneInReply job.query job.frozen text → NoneAnswers s (finish j) text
untold s j job text there none t a = some_settled s t j job text a.outcome there none a.filed a.text (settled s (finish j) a.outcome t a.step)

refused_open : (s t : ProgramState) (j : ℕ) (job : ScriptJob) (e : Refusal) → job_at s j ≡ Some job → refusal program s (finish j) ≡ Some e → ⊥
refused_open s t j job e there why = let bad : Some e ≡ None = sym why ∙ open_job s j job there in cc

-- an open job is finished by a part that answers
pub finished_so : {T : Type 0} (s t : ProgramState) (j : ℕ) (job : ScriptJob) (shown : T → ProgramOutcome) (told : T → ProgramSummary) (answer : Result T Refusal) (answers_so : ProgramSummary) (text : List ℕ)
    → job_at s j ≡ Some job → ((x : T) → shown x ≡ finished (told x)) → lacks_memory answer ≡ false → IsStep program s (finish j) shown answer t → IfOk answer (λ x. told x ≡ answers_so) → text ≡ outcome_text (finished answers_so)
    → MatchBool (is_ok answer) (Answers s (finish j) text t) (NoneAnswers s (finish j) text)
finished_so s t j job shown told (Ok x) b text there by some step is tells = record {
  outcome = finished b;
  step = subst (λ (o : ProgramOutcome). Step program s (finish j) o t) (by x ∙ ap (λ (c : ProgramSummary). finished c) is) (step_of s t (finish j) shown (Ok x) some step);
  filed = refl;
  text = tells;
}
finished_so s t j job shown told (Err e) b text there by some step is tells =
    let made = step_of s t (finish j) shown (Err e) some step in
    absurd (refused_open s t j job e there made.0)
