-- No step changes the limits.
use Rattle.std.proofs.Common.{◌≡◌, ap}
use Rattle.handles.specs.Machine.{Kind, State, Request, open_handle, snapshot, drop_handle, on, view, freeze, finish, abandon, worker_step, Outcome, made, replied, viewed, frozen, finished, unfinished, refused, worked, Granted, Step}

module _ {K V Q A B : Type 0} (kind : Kind K V Q A B) where
  granted_keeps : (s t : State K V Q) (r : Request K V Q) (o : Outcome K V B) → Granted kind s r o t → t.limits ≡ s.limits
  granted_keeps s t (open_handle h) made g = ap (λ x. x.limits) g
  granted_keeps s t (open_handle h) (replied y) g = absurd g
  granted_keeps s t (open_handle h) (viewed m) g = absurd g
  granted_keeps s t (open_handle h) (frozen i m) g = absurd g
  granted_keeps s t (open_handle h) (finished b) g = absurd g
  granted_keeps s t (open_handle h) unfinished g = absurd g
  granted_keeps s t (open_handle h) worked g = absurd g
  granted_keeps s t (open_handle h) (refused e) g = absurd g
  granted_keeps s t (snapshot h to) made g = ap (λ x. x.limits) g
  granted_keeps s t (snapshot h to) (replied y) g = absurd g
  granted_keeps s t (snapshot h to) (viewed m) g = absurd g
  granted_keeps s t (snapshot h to) (frozen i m) g = absurd g
  granted_keeps s t (snapshot h to) (finished b) g = absurd g
  granted_keeps s t (snapshot h to) unfinished g = absurd g
  granted_keeps s t (snapshot h to) worked g = absurd g
  granted_keeps s t (snapshot h to) (refused e) g = absurd g
  granted_keeps s t (drop_handle h) made g = ap (λ x. x.limits) g
  granted_keeps s t (drop_handle h) (replied y) g = absurd g
  granted_keeps s t (drop_handle h) (viewed m) g = absurd g
  granted_keeps s t (drop_handle h) (frozen i m) g = absurd g
  granted_keeps s t (drop_handle h) (finished b) g = absurd g
  granted_keeps s t (drop_handle h) unfinished g = absurd g
  granted_keeps s t (drop_handle h) worked g = absurd g
  granted_keeps s t (drop_handle h) (refused e) g = absurd g
  granted_keeps s t (on h c) made g = absurd g
  granted_keeps s t (on h c) (replied y) g = ap (λ x. x.limits) g.1
  granted_keeps s t (on h c) (viewed m) g = absurd g
  granted_keeps s t (on h c) (frozen i m) g = absurd g
  granted_keeps s t (on h c) (finished b) g = absurd g
  granted_keeps s t (on h c) unfinished g = absurd g
  granted_keeps s t (on h c) worked g = absurd g
  granted_keeps s t (on h c) (refused e) g = absurd g
  granted_keeps s t (view h) made g = absurd g
  granted_keeps s t (view h) (replied y) g = absurd g
  granted_keeps s t (view h) (viewed m) g = ap (λ x. x.limits) g.1
  granted_keeps s t (view h) (frozen i m) g = absurd g
  granted_keeps s t (view h) (finished b) g = absurd g
  granted_keeps s t (view h) unfinished g = absurd g
  granted_keeps s t (view h) worked g = absurd g
  granted_keeps s t (view h) (refused e) g = absurd g
  granted_keeps s t (freeze h q) made g = absurd g
  granted_keeps s t (freeze h q) (replied y) g = absurd g
  granted_keeps s t (freeze h q) (viewed m) g = absurd g
  granted_keeps s t (freeze h q) (frozen i m) g = ap (λ x. x.limits) g.2
  granted_keeps s t (freeze h q) (finished b) g = absurd g
  granted_keeps s t (freeze h q) unfinished g = absurd g
  granted_keeps s t (freeze h q) worked g = absurd g
  granted_keeps s t (freeze h q) (refused e) g = absurd g
  granted_keeps s t (finish j) made g = absurd g
  granted_keeps s t (finish j) (replied y) g = absurd g
  granted_keeps s t (finish j) (viewed m) g = absurd g
  granted_keeps s t (finish j) (frozen i m) g = absurd g
  granted_keeps s t (finish j) (finished b) g = ap (λ x. x.limits) g.left
  granted_keeps s t (finish j) unfinished g = ap (λ x. x.limits) g
  granted_keeps s t (finish j) worked g = absurd g
  granted_keeps s t (finish j) (refused e) g = absurd g
  granted_keeps s t (abandon j) made g = ap (λ x. x.limits) g
  granted_keeps s t (abandon j) (replied y) g = absurd g
  granted_keeps s t (abandon j) (viewed m) g = absurd g
  granted_keeps s t (abandon j) (frozen i m) g = absurd g
  granted_keeps s t (abandon j) (finished b) g = absurd g
  granted_keeps s t (abandon j) unfinished g = absurd g
  granted_keeps s t (abandon j) worked g = absurd g
  granted_keeps s t (abandon j) (refused e) g = absurd g
  granted_keeps s t worker_step made g = absurd g
  granted_keeps s t worker_step (replied y) g = absurd g
  granted_keeps s t worker_step (viewed m) g = absurd g
  granted_keeps s t worker_step (frozen i m) g = absurd g
  granted_keeps s t worker_step (finished b) g = absurd g
  granted_keeps s t worker_step unfinished g = absurd g
  granted_keeps s t worker_step worked g = ap (λ x. x.limits) g
  granted_keeps s t worker_step (refused e) g = absurd g

  pub limits_kept : (s t : State K V Q) (r : Request K V Q) (o : Outcome K V B) → Step kind s r o t → t.limits ≡ s.limits
  limits_kept s t r made step = granted_keeps s t r made step.1
  limits_kept s t r (replied y) step = granted_keeps s t r (replied y) step.1
  limits_kept s t r (viewed m) step = granted_keeps s t r (viewed m) step.1
  limits_kept s t r (frozen i m) step = granted_keeps s t r (frozen i m) step.1
  limits_kept s t r (finished b) step = granted_keeps s t r (finished b) step.1
  limits_kept s t r unfinished step = granted_keeps s t r unfinished step.1
  limits_kept s t r worked step = granted_keeps s t r worked step.1
  limits_kept s t r (refused e) step = ap (λ x. x.limits) step.1
