-- The number of a job is never another job's.
use Rattle.std.proofs.Common.{◌≡◌, ℕ, ◌+◌, Bool, true, false, cond, List, [], ◌∷◌, Option, Some, None, sym, ap, ◌∙◌, subst, arith}
use Rattle.std.specs.Ordering.{nat_cmp, eq_by_cmp}
use Rattle.std.specs.Cmp.{nat_cmp_total, eq_by_cmp_equiv}
use Rattle.std.specs.FinMap.{nat_cmp-IsAntisymmetric}
use Rattle.std.specs.FinMap.Entries.{find-put, find-where_key}
use Rattle.std.proofs.lemmas.Bool.Decides.{nat_tests}
use Rattle.versions.specs.Map.{Map, value_at, with_pair, without, is_other}
use Rattle.handles.specs.Machine.{Kind, State, Job, Request, open_handle, snapshot, drop_handle, on, view, freeze, finish, abandon, worker_step, Outcome, made, replied, viewed, frozen, finished, unfinished, refused, worked, Step, Run, job_at, held_by}
use Rattle.tests_core_steps_memory.specs.Clients.{IsOnlyJob}

module _ {K V Q : Type 0} where
  -- no job is opened or closed
  same_jobs : (s t : State K V Q) (j : ℕ) (job : Job K V Q) → t.jobs ≡ s.jobs → t.next ≡ s.next → IsOnlyJob s j job → IsOnlyJob t j job
  same_jobs s t j job jobs next is = record {
    given = omega (arith, next, is.given);
    only = λ x opened. is.only x (ap (λ js. value_at nat_cmp js j) (sym jobs) ∙ opened);
  }

  -- a job is opened
  one_more : (s t : State K V Q) (j k : ℕ) (job other : Job K V Q) → t.jobs ≡ with_pair nat_cmp s.jobs k other → t.next ≡ s.next + 1 → k ≡ s.next → IsOnlyJob s j job → IsOnlyJob t j job
  one_more s t j k job other jobs next new is =
      let apart : eq_by_cmp nat_cmp j k ≡ false = grind (arith, nat_tests, new, is.given) in
      let same : job_at t j ≡ job_at s j =
      ap (λ js. value_at nat_cmp js j) jobs ∙ find-put nat_cmp nat_cmp_total j k other s.jobs ∙ ap (λ (b : Bool). cond b (Some other) (job_at s j)) apart in
      record { given = omega (arith, next, is.given); only = λ x opened. is.only x (sym same ∙ opened) }

  -- a job is closed
  one_less : (s t : State K V Q) (j k : ℕ) (job : Job K V Q) → t.jobs ≡ without nat_cmp s.jobs k → t.next ≡ s.next → IsOnlyJob s j job → IsOnlyJob t j job
  one_less s t j k job jobs next is =
      let now : job_at t j ≡ cond (is_other nat_cmp k j) (job_at s j) None =
      ap (λ js. value_at nat_cmp js j) jobs ∙ find-where_key nat_cmp (is_other nat_cmp k) j (λ x e. ap (is_other nat_cmp k) (sym (nat_cmp-IsAntisymmetric j x e))) s.jobs in
      record { given = omega (arith, next, is.given); only = λ x opened. is.only x (was (is_other nat_cmp k j) (job_at s j) x (sym now ∙ opened)) }
    where
      was : (b : Bool) (o : Option (Job K V Q)) (x : Job K V Q) → cond b o None ≡ Some x → o ≡ Some x
      was true o x e = e
      was false o x e = absurd (cc)

module _ {K V Q A B : Type 0} (kind : Kind K V Q A B) where
  step_keeps : (s t : State K V Q) (r : Request K V Q) (o : Outcome K V B) (j : ℕ) (job : Job K V Q) → Step kind s r o t → IsOnlyJob s j job → IsOnlyJob t j job
  step_keeps s t (open_handle h) made j job step is = same_jobs s t j job (ap (λ (x : State K V Q). x.jobs) step.1) (ap (λ (x : State K V Q). x.next) step.1) is
  step_keeps s t (snapshot h to) made j job step is = same_jobs s t j job (ap (λ (x : State K V Q). x.jobs) step.1) (ap (λ (x : State K V Q). x.next) step.1) is
  step_keeps s t (drop_handle h) made j job step is = same_jobs s t j job (ap (λ (x : State K V Q). x.jobs) step.1) (ap (λ (x : State K V Q). x.next) step.1) is
  step_keeps s t (on h c) (replied y) j job step is = same_jobs s t j job (ap (λ (x : State K V Q). x.jobs) step.1.1) (ap (λ (x : State K V Q). x.next) step.1.1) is
  step_keeps s t (view h) (viewed m) j job step is = same_jobs s t j job (ap (λ (x : State K V Q). x.jobs) step.1.1) (ap (λ (x : State K V Q). x.next) step.1.1) is
  step_keeps s t (freeze h q) (frozen k m) j job step is =
      one_more s t j k job (record { query = q; frozen = m }) (ap (λ (x : State K V Q). x.jobs) step.1.2) (ap (λ (x : State K V Q). x.next) step.1.2) step.1.0 is
  step_keeps s t (finish k) (finished b) j job step is = one_less s t j k job (ap (λ (x : State K V Q). x.jobs) step.1.left) (ap (λ (x : State K V Q). x.next) step.1.left) is
  step_keeps s t (finish k) unfinished j job step is = same_jobs s t j job (ap (λ (x : State K V Q). x.jobs) step.1) (ap (λ (x : State K V Q). x.next) step.1) is
  step_keeps s t (abandon k) made j job step is = one_less s t j k job (ap (λ (x : State K V Q). x.jobs) step.1) (ap (λ (x : State K V Q). x.next) step.1) is
  step_keeps s t worker_step worked j job step is = same_jobs s t j job (ap (λ (x : State K V Q). x.jobs) step.1) (ap (λ (x : State K V Q). x.next) step.1) is
  step_keeps s t r (refused e) j job step is = same_jobs s t j job (ap (λ (x : State K V Q). x.jobs) step.1) (ap (λ (x : State K V Q). x.next) step.1) is
  step_keeps s t r o j job step is = absurd step.1

  -- whatever steps are made
  pub run_keeps : (s t : State K V Q) (rs : List (Request K V Q)) (os : List (Outcome K V B)) (j : ℕ) (job : Job K V Q) → Run kind s rs os t → IsOnlyJob s j job → IsOnlyJob t j job
  run_keeps s t [] [] j job run is = subst (λ (u : State K V Q). IsOnlyJob u j job) run is
  run_keeps s t [] (o ∷ os) j job run is = absurd run
  run_keeps s t (r ∷ rs) [] j job run is = absurd run
  run_keeps s t (r ∷ rs) (o ∷ os) j job run is = run_keeps run.0 t rs os j job run.2 (step_keeps s run.0 r o j job run.1 is)

  -- the job that a freeze opens
  pub freeze_gives : (s t : State K V Q) (h : ℕ) (q : Q) (j : ℕ) (m : Map K V) → Step kind s (freeze h q) (frozen j m) t → IsOnlyJob t j (record { query = q; frozen = held_by s h })
  freeze_gives s t h q j m step =
      let job : Job K V Q = record { query = q; frozen = m } in
      let opened : job_at t j ≡ Some job =
      ap (λ (x : State K V Q). job_at x j) step.1.2
      ∙ find-put nat_cmp nat_cmp_total j j job s.jobs
      ∙ ap (λ (b : Bool). cond b (Some job) (job_at s j)) ((eq_by_cmp_equiv nat_cmp_total).refl j) in
      let next : t.next ≡ s.next + 1 = ap (λ (x : State K V Q). x.next) step.1.2 in
      let of_map : Map K V → Job K V Q = λ n. record { query = q; frozen = n } in
      record { given = omega (arith, next, step.1.0); only = λ x e. same_some x job (sym e ∙ opened) ∙ ap of_map step.1.1 }
    where
      same_some : (x y : Job K V Q) → Some x ≡ Some y → x ≡ y
      same_some x y e = cc
