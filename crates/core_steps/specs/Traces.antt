-- Runs of the core, and what they show to clients and of a job's intervals.
use Rattle.std.specs.Prelude.{◌≡◌, ℕ, ◌==◌, cond, List, [], ◌∷◌}
use Rattle.handles.specs.Machine.{Kind, Request, Outcome}
use Rattle.iter.specs.declared.interval.Interval.{Interval}
use Rattle.worker_states.specs.Boards.{working, done}
use Rattle.core_steps.specs.Cores.{CoreState, Asked, of_client, of_worker, CoreOutcome, to_client, to_worker, Division, CoreStep}

-- the requests of the clients among what was asked
abbrev pub client_requests : {K V Q : Type 0} → List (Asked K V Q) → List (Request K V Q)
client_requests [] = []
client_requests (of_client r ∷ xs) = r ∷ client_requests xs
client_requests (x ∷ xs) = client_requests xs

-- the clients' outcomes among all outcomes of the core
abbrev pub client_outcomes : {K V B : Type 0} → List (CoreOutcome K V B) → List (Outcome K V B)
client_outcomes [] = []
client_outcomes (to_client o ∷ ys) = o ∷ client_outcomes ys
client_outcomes (y ∷ ys) = client_outcomes ys

-- the intervals of a job that were worked, in order
abbrev pub covered : {K V Q B : Type 0} → ℕ → List (Asked K V Q) → List (CoreOutcome K V B) → List Interval
covered j (of_worker i (working w) ∷ xs) (to_worker (done lo hi n settled) ∷ ys) = cond (i == j) (record { lo = lo; hi = hi } ∷ covered j xs ys) (covered j xs ys)
covered j (x ∷ xs) (y ∷ ys) = covered j xs ys
covered j _ _ = []

module _ {K V Q A B : Type 0} (kind : Kind K V Q A B) (division : Division K V Q) where
  -- what was asked got these answers, one step after another
  abbrev pub CoreRun : CoreState K V Q → List (Asked K V Q) → List (CoreOutcome K V B) → CoreState K V Q → Type 0
  CoreRun s [] [] t = s ≡ t
  CoreRun s (x ∷ xs) (y ∷ ys) t = (u : CoreState K V Q) × CoreStep kind division s x y u × CoreRun u xs ys t
  CoreRun s _ _ t = ⊥
