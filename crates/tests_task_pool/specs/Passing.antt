-- Which values the test of a question passes.
use Rattle.std.specs.Prelude.{ℕ, Bool, true, ◌==◌, Option, Some, None}

-- the one value, or any where there is none
abbrev pub passes : Option ℕ → ℕ → Bool
passes (Some wanted) value = value == wanted
passes None value = true
