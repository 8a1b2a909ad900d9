-- What calls do on a map whose values are numbers.
use Rattle.std.specs.Prelude.{ℕ, List, [], ◌==◌, drop}
use Rattle.versions.specs.Commands.{Command}
use Rattle.c_map.specs.Stored.{Stored}
use Rattle.c_map.specs.Outcomes as any
use Rattle.c_map.specs.Pages as pages
use Rattle.c_map.specs.declared.answer.Page.{Page}

-- a call does the command
abbrev pub Done : Stored ℕ → Command (List ℕ) ℕ → any.Outcome → Stored ℕ → Type 0
Done = any.Done (λ n. n) ◌==◌

-- it does, or is refused and changes nothing
abbrev pub Does : Stored ℕ → Command (List ℕ) ℕ → any.Outcome → Stored ℕ → Type 0
Does = any.Does (λ n. n) ◌==◌

-- a page of the map's pairs from one number on
abbrev pub IsPage : Stored ℕ → ℕ → List ℕ → Page → List ℕ → Type 0
IsPage m from = pages.IsPage (pages.spelled (λ n. n) (λ _. [])) (drop from (pages.listed m))
