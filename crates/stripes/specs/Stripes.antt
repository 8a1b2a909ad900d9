-- The stripes of a map.
use Rattle.std.specs.Prelude.{ℕ, Bool, true, not, ◌&&◌, ◌==◌, if◌then◌else◌, List, [], ◌∷◌, map}
use Rattle.std.specs.List.{list_any}
use Rattle.std.specs.declared.cmp.Ordering.{Ordering}
use Rattle.stripe.specs.Contents.{Content}
use Rattle.versions.specs.Map.{Map, union}
pub use Rattle.write_history.specs.Rules.{up_to}

-- whether no two of the numbers are equal
abbrev pub all_differ : List ℕ → Bool
all_differ [] = true
all_differ (n ∷ ns) = not (list_any (λ other. n == other) ns) && all_differ ns

module _ {K V : Type 0} where
  -- the first digits of stripes
  abbrev pub digits_of : List (Content K V) → List ℕ
  digits_of stripes = map (λ (s : Content K V). s.digit) stripes

  -- the maps of stripes
  abbrev pub maps_of : List (Content K V) → List (Map K V)
  maps_of stripes = map (λ (s : Content K V). s.entries) stripes

  -- the pairs of all maps; where several have a key, the value is that of the first
  abbrev pub unions : (K → K → Ordering) → List (Map K V) → Map K V
  unions R [] = []
  unions R (m ∷ ms) = union R m (unions R ms)

  -- the map of the first stripe of the digit; no pairs where there is none
  abbrev pub map_of_digit : ℕ → List (Content K V) → Map K V
  map_of_digit d [] = []
  map_of_digit d (s ∷ ss) = if d == s.digit then s.entries else map_of_digit d ss
