use Rattle.std.proofs.Common.{IfOk, Ok, Err, Result}
use Rattle.task_pool.proofs.threads.RunWorkerWork.run.Goals as goal

both : {A E : Type 0} (P Q : A → Type 0) (r : Result A E) → IfOk r P → IfOk r Q → IfOk r (λ x. P x × Q x)
both P Q (Ok x) p q = (p, q)
both P Q (Err e) p q = tt

pub returns : goal.returns
returns g c = both _ _ c.run.result c.run.ensures.place c.run.ensures.asked
