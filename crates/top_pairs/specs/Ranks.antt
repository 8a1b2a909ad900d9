-- The pairs of a map with the highest scores.
use Rattle.std.specs.Prelude.{◌≡◌, ◌≢◌, ℕ, List, [], ◌∷◌, ◌++◌, length, map, min, IsPermutation}
use Rattle.std.specs.List.{AllByRecursion}
use Rattle.std.specs.declared.cmp.Ordering.{Ordering}
use Rattle.std.specs.declared.cmp.Ordering.TheVariants.{Less}
use Rattle.versions.specs.Map.{Map}
use Rattle.bulk_ops.specs.Meanings.{Means}

-- a pair with its score
pub record Listed (K V S : Type 0) : Type 0 where
  pub score : S
  pub key : K
  pub value : V

module _ {K V S : Type 0} where
  -- the pair alone
  abbrev pub pair_of : Listed K V S → K × V
  pair_of x = (x.key, x.value)

  module _ (R : S → S → Ordering) where
    -- x scores no lower than s
    abbrev pub AtLeast : S → Listed K V S → Type 0
    AtLeast s x = R x.score s ≢ Less

    -- scores never rise along the list
    abbrev pub Falls : List (Listed K V S) → Type 0
    Falls [] = Unit {0}
    Falls (x ∷ xs) = AllByRecursion (λ y. AtLeast y.score x) xs × Falls xs

    -- these are the pairs of m with the highest scores, as many as are asked for or all, from the highest score down
    pub record IsTop (most : ℕ) (gives : K → V → S → Type 0) (m : Map K V) (listed : List (Listed K V S)) : Type 0 where
      -- the pairs of m that are not listed
      pub others : Map K V
      -- each pair of m is listed once or is one of the others, and there are no more
      pub all : IsPermutation m (map pair_of listed ++ others)
      -- as many as are asked for, or all of a smaller map
      pub size : length listed ≡ min most (length m)
      pub falls : Falls listed
      -- each score is what the closure answered at the pair
      pub told : AllByRecursion (λ x. gives x.key x.value x.score) listed
      -- for each meaning of the closure, none of the others scores higher than a listed pair
      pub highest : (score : K → V → S) → Means gives score → AllByRecursion (λ y. AllByRecursion (AtLeast (score y.0 y.1)) listed) others
