-- A run of the core is a run of the machine.
use Rattle.std.proofs.Common.{◌≡◌, List, [], ◌∷◌, ap, subst}
use Rattle.handles.specs.Machine.{Kind, State, Request, Outcome, Run}
use Rattle.core_steps.specs.Cores.{CoreState, Asked, of_client, of_worker, CoreOutcome, to_client, to_worker, no_move, Division}
use Rattle.core_steps.specs.Traces.{client_requests, client_outcomes, CoreRun}

module _ {K V Q A B : Type 0} (kind : Kind K V Q A B) (division : Division K V Q) where
  from_machine : (a b t : State K V Q) (rs : List (Request K V Q)) (os : List (Outcome K V B)) → a ≡ b → Run kind a rs os t → Run kind b rs os t
  from_machine a b t rs os e run = subst (λ (s : State K V Q). Run kind s rs os t) e run

  pub run_of_machine : (s t : CoreState K V Q) (xs : List (Asked K V Q)) (ys : List (CoreOutcome K V B)) → CoreRun kind division s xs ys t → Run kind s.machine (client_requests xs) (client_outcomes ys) t.machine
  run_of_machine s t [] [] run = ap (λ (c : CoreState K V Q). c.machine) run
  run_of_machine s t [] (y ∷ ys) run = absurd run
  run_of_machine s t (x ∷ xs) [] run = absurd run
  run_of_machine s t (of_client r ∷ xs) (to_client o ∷ ys) (u, step, rest) =
      (step.0, step.1, from_machine u.machine step.0 t.machine _ _ (ap (λ (c : CoreState K V Q). c.machine) step.3) (run_of_machine u t xs ys rest))
  run_of_machine s t (of_client r ∷ xs) (to_worker y ∷ ys) (u, step, rest) = absurd step
  run_of_machine s t (of_client r ∷ xs) (no_move e ∷ ys) (u, step, rest) = absurd step
  run_of_machine s t (of_worker j x ∷ xs) (to_client o ∷ ys) (u, step, rest) = absurd step
  run_of_machine s t (of_worker j x ∷ xs) (to_worker y ∷ ys) (u, step, rest) =
      from_machine u.machine s.machine t.machine _ _ (ap (λ (c : CoreState K V Q). c.machine) step.1.left) (run_of_machine u t xs ys rest)
  run_of_machine s t (of_worker j x ∷ xs) (no_move e ∷ ys) (u, step, rest) =
      from_machine u.machine s.machine t.machine _ _ (ap (λ (c : CoreState K V Q). c.machine) step.1) (run_of_machine u t xs ys rest)
