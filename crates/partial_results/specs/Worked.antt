-- What workers have worked.
use Rattle.std.specs.Prelude.{◌≡◌, ℕ, ◌≤◌, cond, All, List, length, flat_map, Option, Some, None}
use Rattle.std.specs.declared.cmp.Ordering.{Ordering}
use Rattle.trie_shape.specs.Map.{Map, IsMap}
use Rattle.versions.specs.declared.version.TheConstants.{MOST_PAIRS}
use Rattle.iter.specs.declared.interval.Interval.{Interval}
use Rattle.iter.specs.Intervals.{AreApart, cover, lies_in, parts}
use Rattle.splitter.specs.Cuts.{cut_point}

-- how often one interval has a position
abbrev pub once : Interval → ℕ → ℕ
once i p = cond (lies_in i p) 1 0

-- none of the intervals has a cut point
abbrev pub Uncut : {K V : Type 0} → (K → ℕ) → Map K V → ℕ → List Interval → Type 0
Uncut path m grain is = All (λ i. cut_point path m i grain ≡ None) is

-- the intervals of all lists
abbrev pub all_of : List (List Interval) → List Interval
all_of lists = flat_map (λ is. is) lists

-- a part of the named operation, the intervals that were worked for it, and the same positions in fewer intervals
pub record IsPartial {K V B P : Type 0} (R : K → K → Ordering) (path : K → ℕ) (answers : B → Map K V → P → Type 0) (ready : B → Type 0) (m : Map K V) (grain : ℕ) (named : Option B) (bulk : B) (part : P) (worked runs : List Interval) : Type 0 where
  pub is_named : Some bulk ≡ named
  pub is_ready : ready bulk
  pub sorted : IsMap R m
  pub few : length m ≤ MOST_PAIRS
  pub apart : AreApart worked
  pub uncut : Uncut path m grain worked
  pub answered : answers bulk (parts path m worked) part
  pub same : (p : ℕ) → cover runs p ≡ cover worked p
