-- Maps that stand to one another.
use Rattle.std.specs.Prelude.{◌+◌, ◌≤◌, length, Contains}
use Rattle.std.specs.declared.cmp.Ordering.{Ordering}
use Rattle.versions.specs.Map.{Map, IsMap, ShareNoKey}
use Rattle.versions.specs.declared.version.TheConstants.{MOST_PAIRS}

-- every pair of m is a pair of n
abbrev pub IsWithin : {K V : Type 0} → Map K V → Map K V → Type 0
IsWithin {K} {V} m n = (x : K × V) → Contains m x → Contains n x

module _ {K V : Type 0} (R : K → K → Ordering) where
  -- two maps that share no key, and have no more pairs together than a map may have
  pub record AreApart (m n : Map K V) : Type 0 where
    pub left : IsMap R m
    pub right : IsMap R n
    pub apart : ShareNoKey R m n
    pub few : length m + length n ≤ MOST_PAIRS
