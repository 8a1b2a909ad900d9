-- Runs of a core with one step more.
use Rattle.std.proofs.Common.{◌≡◌, ℕ, ◌+◌, ◌<◌, List, [], ◌∷◌, ◌++◌, length, map, take, get_or, refl, ap, ◌∙◌, sym, subst}
use Rattle.std.proofs.lemmas.List.{take_more, map-append}
use Rattle.bulk_work.specs.Answers as plain
use Rattle.versions.specs.Map.{Map}
use Rattle.handles.specs.Machine.{Kind}
use Rattle.core_steps.specs.Cores.{CoreState, Asked, CoreOutcome, Division, CoreStep}
use Rattle.core_steps.specs.Parts.{CoreValue, PartsStep, PartsRun}
use Rattle.core_steps.specs.Traces.{CoreRun}
use Rattle.core_steps.specs.Invariants.{IsCore}
use Rattle.core_steps.specs.Laws.{NoneWorkedTwice}
use Rattle.core_steps.specs.Steps.{Shows, AllShow, StepsTo, HasRun, Ran, asked_by}
use Rattle.core_steps.specs.declared.outcome.Outcome.{Outcome}
use Rattle.core_steps.specs.declared.step.Step.{Step}
use Rattle.core_steps.proofs.Runs.{run_of_machine}

module _ {K V Q I : Type 0} where
  shows_more : (xs : List (Asked K V Q)) (os : List (Outcome K V I)) (ys : List (CoreOutcome K V (plain.Summary K V I))) (x : Asked K V Q) (o : Outcome K V I) (y : CoreOutcome K V (plain.Summary K V I))
      → AllShow xs os ys → Shows x o y → AllShow (xs ++ x ∷ []) (os ++ o ∷ []) (ys ++ y ∷ [])
  shows_more [] [] [] x o y all one = (one, tt)
  shows_more [] [] (z ∷ ys) x o y all one = absurd all
  shows_more [] (p ∷ os) ys x o y all one = absurd all
  shows_more (a ∷ xs) [] ys x o y all one = absurd all
  shows_more (a ∷ xs) (p ∷ os) [] x o y all one = absurd all
  shows_more (a ∷ xs) (p ∷ os) (z ∷ ys) x o y all one = (all.0, shows_more xs os ys x o y all.1 one)

module _ {K V Q I A : Type 0} (kind : Kind K V Q A (plain.Summary K V I)) (division : Division K V Q) where
  runs_more : (s t u : CoreState K V Q) (xs : List (Asked K V Q)) (ys : List (CoreOutcome K V (plain.Summary K V I))) (x : Asked K V Q) (y : CoreOutcome K V (plain.Summary K V I))
      → CoreRun kind division s xs ys t → CoreStep kind division t x y u → CoreRun kind division s (xs ++ x ∷ []) (ys ++ y ∷ []) u
  runs_more s t u [] [] x y run step = (u, subst (λ (r : CoreState K V Q). CoreStep kind division r x y u) (sym run) step, refl)
  runs_more s t u [] (z ∷ ys) x y run step = absurd run
  runs_more s t u (a ∷ xs) [] x y run step = absurd run
  runs_more s t u (a ∷ xs) (z ∷ ys) x y run step = (run.0, run.1, runs_more run.0 t u xs ys x y run.2 step)

module _ {K V Q B P : Type 0} where
  parts_more : (ps qs rs : Map ℕ (List P)) (xs : List (Asked K V Q)) (ys : List (CoreOutcome K V B)) (x : Asked K V Q) (y : CoreOutcome K V B)
      → PartsRun ps xs ys qs → PartsStep qs y x rs → PartsRun ps (xs ++ x ∷ []) (ys ++ y ∷ []) rs
  parts_more ps qs rs [] [] x y run step = (rs, subst (λ (r : Map ℕ (List P)). PartsStep r y x rs) (sym run) step, refl)
  parts_more ps qs rs [] (z ∷ ys) x y run step = absurd run
  parts_more ps qs rs (a ∷ xs) [] x y run step = absurd run
  parts_more ps qs rs (a ∷ xs) (z ∷ ys) x y run step = (run.0, run.1, parts_more run.0 qs rs xs ys x y run.2 step)

module _ {K V Q P I A : Type 0} (kind : Kind K V Q A (plain.Summary K V I)) (division : Division K V Q) where
  -- no step
  pub run_none : (s : CoreValue K V Q P) → HasRun kind division s [] [] s
  run_none s = record { told = []; shown = tt; run = refl; parts = refl }

  -- what clients see of it is a run of the machine, and of no job a position was worked twice
  pub ran : NoneWorkedTwice kind division → (s t : CoreValue K V Q P) (xs : List (Asked K V Q)) (os : List (Outcome K V I)) → IsCore s.state → HasRun kind division s xs os t → Ran kind division s xs os t
  ran never s t xs os is run = record { steps = run; machine = run_of_machine kind division s.state t.state xs run.told run.run; apart = λ j. never s.state t.state xs run.told j is run.run }

  -- one step more
  pub run_more : (s t u : CoreValue K V Q P) (xs : List (Asked K V Q)) (os : List (Outcome K V I)) (x : Asked K V Q) (o : Outcome K V I)
      → HasRun kind division s xs os t → StepsTo kind division t x o u → HasRun kind division s (xs ++ x ∷ []) (os ++ o ∷ []) u
  run_more s t u xs os x o run step = record {
    told = run.told ++ step.told ∷ [];
    shown = shows_more xs os run.told x o step.told run.shown step.shown;
    run = runs_more kind division s.state t.state u.state xs run.told x step.told run.run step.step;
    parts = parts_more s.parts t.parts u.parts xs run.told x step.told run.parts step.parts;
  }

  -- of steps in a list, one step more
  pub steps_more : (s t u : CoreValue K V Q P) (steps : List (Step K V Q)) (k : ℕ) (step : Step K V Q) (os : List (Outcome K V I)) (o : Outcome K V I) → k < length steps → step ≡ get_or steps k step
      → HasRun kind division s (map asked_by (take k steps)) os t → StepsTo kind division t (asked_by step) o u → HasRun kind division s (map asked_by (take (k + 1) steps)) (os ++ o ∷ []) u
  steps_more s t u steps k step os o there read run last =
      let longer : map asked_by (take (k + 1) steps) ≡ map asked_by (take k steps) ++ asked_by step ∷ [] =
      ap (map asked_by) (take_more steps k step there ∙ ap (λ (x : Step K V Q). take k steps ++ x ∷ []) (sym read)) ∙ map-append asked_by (take k steps) (step ∷ []) in
      subst (λ (xs : List (Asked K V Q)). HasRun kind division s xs (os ++ o ∷ []) u) (sym longer) (run_more s t u (map asked_by (take k steps)) os (asked_by step) o run last)
