-- Which parts answer an open job.
use Rattle.std.proofs.Common.{◌≡◌, subst, Option, Some}
use Rattle.std.specs.Prelude.{IfSome}
use Rattle.versions.specs.Map.{Map}
use Rattle.handles.specs.Machine.{Job}

module _ {K V Q P : Type 0} (answers : Q → Map K V → P → Type 0) where
  -- a part that answers the open job, if there is one, answers whatever job is open
  pub answers_job : (o : Option (Job K V Q)) (part : P) → IfSome o (λ j. answers j.query j.frozen part) → (j : Job K V Q) → o ≡ Some j → answers j.query j.frozen part
  answers_job o part holds j is = subst (λ (p : Option (Job K V Q)). IfSome p (λ k. answers k.query k.frozen part)) is holds
