-- What a step keeps.
use Rattle.std.proofs.Common.{◌≡◌, ℕ, Bool, false, cond, Some, None, refl, ap, ◌∙◌}
use Rattle.std.specs.Prelude.{◌≢◌}
use Rattle.std.specs.declared.cmp.Ordering.TheVariants.{Less, Equal, Greater}
use Rattle.std.specs.Ordering.{nat_cmp, is_eq, eq_by_cmp}
use Rattle.std.specs.Cmp.{nat_cmp_total, eq_by_cmp_equiv}
use Rattle.std.specs.FinMap.{nat_cmp-IsAntisymmetric}
use Rattle.std.specs.FinMap.Entries.{find-put}
use Rattle.versions.specs.Commands.{after}
use Rattle.handles.specs.Machine.{Kind, State, Job, Request, open_handle, snapshot, drop_handle, on, view, freeze, finish, abandon, worker_step, Outcome, Granted, made, replied, viewed, frozen, finished, unfinished, refused, worked, map_at, held_by, job_at, job_of, is_freeze}
use Rattle.handles.specs.Laws.{CommandsKeepOtherHandles, FreezesOpenJobs, OthersKeepJobs, RefusalsKeepAll}

not_tied : (x y : ℕ) → x ≢ y → eq_by_cmp nat_cmp x y ≡ false
not_tied x y apart = elim (nat_cmp x y) as (λ o. nat_cmp x y ≡ o → is_eq o ≡ false) [
  | Less ↦ λ e. refl
  | Equal ↦ λ e. absurd (apart (nat_cmp-IsAntisymmetric x y e))
  | Greater ↦ λ e. refl
] refl

module _ {K V Q A B : Type 0} (kind : Kind K V Q A B) where
  pub commands_keep_other_handles : CommandsKeepOtherHandles kind
  commands_keep_other_handles s t h other c (replied y) step apart =
      let left = after kind.order kind.equal (held_by s h) c in
      ap (λ (x : State K V Q). map_at x other) step.1.1
      ∙ find-put nat_cmp nat_cmp_total other h left s.live
      ∙ ap (λ (b : Bool). cond b (Some left) (map_at s other)) (not_tied other h apart)
  commands_keep_other_handles s t h other c (refused e) step apart = ap (λ (x : State K V Q). map_at x other) step.1
  commands_keep_other_handles s t h other c made step apart = absurd step.1
  commands_keep_other_handles s t h other c (viewed m) step apart = absurd step.1
  commands_keep_other_handles s t h other c (frozen j m) step apart = absurd step.1
  commands_keep_other_handles s t h other c (finished b) step apart = absurd step.1
  commands_keep_other_handles s t h other c unfinished step apart = absurd step.1
  commands_keep_other_handles s t h other c worked step apart = absurd step.1

  pub refusals_keep_all : RefusalsKeepAll kind
  refusals_keep_all s t r e step = (ap (λ (x : State K V Q). x.live) step.1, ap (λ (x : State K V Q). x.jobs) step.1)

  pub freezes_open_jobs : FreezesOpenJobs kind
  freezes_open_jobs s t h q j m step =
      let job : Job K V Q = record { query = q; frozen = m } in
      ap (λ (x : State K V Q). job_at x j) step.1.2
      ∙ find-put nat_cmp nat_cmp_total j j job s.jobs
      ∙ ap (λ (b : Bool). cond b (Some job) (job_at s j)) ((eq_by_cmp_equiv nat_cmp_total).refl j)

  -- a request that is granted leaves all jobs, unless it opens or closes one
  granted_keeps_jobs : (s t : State K V Q) (r : Request K V Q) (o : Outcome K V B) → is_freeze r ≡ false → job_of r ≡ None → Granted kind s r o t → t.jobs ≡ s.jobs
  granted_keeps_jobs s t (open_handle h) made f n g = ap (λ (x : State K V Q). x.jobs) g
  granted_keeps_jobs s t (snapshot h to) made f n g = ap (λ (x : State K V Q). x.jobs) g
  granted_keeps_jobs s t (drop_handle h) made f n g = ap (λ (x : State K V Q). x.jobs) g
  granted_keeps_jobs s t (on h c) (replied y) f n g = ap (λ (x : State K V Q). x.jobs) g.1
  granted_keeps_jobs s t (view h) (viewed m) f n g = ap (λ (x : State K V Q). x.jobs) g.1
  granted_keeps_jobs s t worker_step worked f n g = ap (λ (x : State K V Q). x.jobs) g
  granted_keeps_jobs s t (freeze h q) o f n g = absurd (cc)
  granted_keeps_jobs s t (finish j) o f n g = absurd (cc)
  granted_keeps_jobs s t (abandon j) o f n g = absurd (cc)
  granted_keeps_jobs s t r o f n g = absurd g

  pub others_keep_jobs : OthersKeepJobs kind
  others_keep_jobs s t r (refused e) f n step = ap (λ (x : State K V Q). x.jobs) step.1
  others_keep_jobs s t r o f n step = granted_keeps_jobs s t r o f n step.1
