-- What is foreseen of a call that is refused, and of a finish.
use Rattle.std.proofs.Common.{◌≡◌, ℕ, ◌+◌, Bool, Option, None, true, refl, sym, ap, subst, ◌∙◌}
use Rattle.std.specs.Prelude.{Result, Ok, Err, IfOk, IfErr, IsSome, is_some}
use Rattle.std.specs.declared.cmp.Ordering.{Ordering}
use Rattle.std.specs.Ordering.{nat_cmp}
use Rattle.versions.specs.Map.{Map, value_at, without}
use Rattle.versions.specs.declared.refusal.Refusal.{Refusal}
use Rattle.versions.specs.declared.refusal.Refusal.TheVariants.{NoHandle, Taken, Full, NoJob, Unfinished, NoWorker, TooManyJobs, JournalFull, NoMemory, BadNumber}
use Rattle.bulk_work.specs.Answers as plain
use Rattle.bulk_work.specs.declared.asks.Answer.{Answer}
use Rattle.handles.specs.Jobs.{Opened, Tells}
use Rattle.handles.specs.Machine.{Kind, State, Request, Outcome, finish, job_at, live_after, refusal}
use Rattle.handles.specs.Views.{Foresees, finished_outcome, machine}
use Rattle.handles.proofs.Refusals.{end_has_job}

module _ {K V Q A B T U : Type 0} (kind : Kind K V Q A B) where
  -- a refusal is foreseen however the call's other answers appear
  pub refused_alike : (s : State K V Q) (r : Request K V Q) (shown : T → Outcome K V B) (also : U → Outcome K V B) (e : Refusal) → Foresees kind s r shown (Err e) → Foresees kind s r also (Err e)
  refused_alike s r shown also NoMemory f = f
  refused_alike s r shown also NoHandle f = f
  refused_alike s r shown also Taken f = f
  refused_alike s r shown also Full f = f
  refused_alike s r shown also NoJob f = f
  refused_alike s r shown also Unfinished f = f
  refused_alike s r shown also NoWorker f = f
  refused_alike s r shown also TooManyJobs f = f
  refused_alike s r shown also JournalFull f = f
  refused_alike s r shown also BadNumber f = f

module _ {K V Q I : Type 0} (R : K → K → Ordering) (E : V → V → Bool) (target : Q → Option ℕ) (answers : Q → Map K V → plain.Answer K V I → Type 0) where
  -- what is returned for the open job is foreseen of its finish
  pub finish_foreseen : (s : State K V Q) (j : ℕ) (jobs : Opened K V Q) (result : Result (Answer K V I) Refusal) → jobs.jobs ≡ s.jobs → refusal (machine R E target answers) s (finish j) ≡ None
      → IfOk result (λ told. Tells answers jobs j told) → (IsSome (value_at nat_cmp jobs.jobs j) → IfErr result (λ e. e ≡ NoMemory))
      → Foresees (machine R E target answers) s (finish j) finished_outcome result
  finish_foreseen s j jobs (Ok told) same free tells memory =
      let was : Tells answers jobs j told = tells in (
        record s { live = live_after (machine R E target answers) s (target was.job.query) was.answer; jobs = without nat_cmp s.jobs j; entries = s.entries + 1 },
        (
          free,
          record {
            job = was.job;
            answer = was.answer;
            named = ap (λ js. value_at nat_cmp js j) (sym same) ∙ was.named;
            is_answer = was.is_answer;
            told = was.is_told;
            left = refl;
          },
        ),
      )
  finish_foreseen s j jobs (Err e) same free tells memory =
      let there : is_some (job_at s j) ≡ true = end_has_job (machine R E target answers) s j free in
      let lacks : e ≡ NoMemory = memory (subst (λ js. is_some (value_at nat_cmp js j) ≡ true) (sym same) there) in
      subst (λ (x : Refusal). Foresees (machine R E target answers) s (finish j) finished_outcome (Err x)) (sym lacks) free
