-- Two maps of counts that are put together, row by row.
use Rattle.std.specs.Prelude.{◌≡◌, ℕ, ◌+◌, T, [], ◌∷◌, ◌++◌}
use Rattle.std.specs.Option.{option_or}
use Rattle.std.specs.declared.cmp.Ordering.{Ordering}
use Rattle.std.specs.FinMap.{is_sorted}
use Rattle.versions.specs.Map.{Map, value_at}
use Rattle.group_counts.specs.Counts.{added, total}

module _ {G : Type 0} (R : G → G → Ordering) where
  -- of a and b the rows in done are put together, and those of left and right are not yet
  pub record Joining (a b done left right : Map G ℕ) : Type 0 where
    pub left_rises : T (is_sorted R (done ++ left))
    pub right_rises : T (is_sorted R (done ++ right))
    pub all : total done + (total left + total right) ≡ total a + total b
    pub each : (g : G) → option_or (value_at R done g) (added (value_at R left g) (value_at R right g)) ≡ added (value_at R a g) (value_at R b g)

  -- the row is the next one, whatever was put together before
  abbrev pub TakesRow : Map G ℕ → Map G ℕ → G × ℕ → Map G ℕ → Map G ℕ → Type 0
  TakesRow left right row left_rest right_rest = (a b done : Map G ℕ) → Joining a b done left right → Joining a b (done ++ row ∷ []) left_rest right_rest
