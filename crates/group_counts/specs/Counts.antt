-- Counts by groups: a finite map from each group to how many pairs it has.
use Rattle.std.specs.Prelude.{◌≡◌, ℕ, ◌+◌, ◌<◌, ◌≤◌, [], ◌∷◌, length, Option, Some, None, get_or, set}
use Rattle.std.specs.List.{insert}
use Rattle.std.specs.Option.{unwrap_or}
use Rattle.std.specs.declared.cmp.Ordering.{Ordering}
use Rattle.std.specs.declared.sync.Arc.{Arc}
use Rattle.std.specs.declared.alloc.Global.{Global}
use Rattle.versions.specs.Map.{Map, IsMap, value_at, with_pair}

-- two counts of one group together, where none is that of a group with no pairs
abbrev pub added : Option ℕ → Option ℕ → Option ℕ
added None b = b
added (Some a) None = Some a
added (Some a) (Some b) = Some (a + b)

module _ {G : Type 0} where
  -- a row without where its group lies
  abbrev pub row_pair : Arc G Global × ℕ → G × ℕ
  row_pair row = (row.0.value, row.1)

  -- how many pairs all groups have together
  abbrev pub total : Map G ℕ → ℕ
  total [] = 0
  total (x ∷ counts) = x.1 + total counts

module _ {G : Type 0} (R : G → G → Ordering) where
  -- how many pairs have the group g
  abbrev pub count_at : Map G ℕ → G → ℕ
  count_at counts g = unwrap_or (value_at R counts g) 0

  -- the counts with one pair more of the group g
  abbrev pub with_one : Map G ℕ → G → Map G ℕ
  with_one counts g = with_pair R counts g (count_at counts g + 1)

  -- c has the groups of a and of b, in order, with the counts of both added
  pub record IsSum (a b c : Map G ℕ) : Type 0 where
    pub rising : IsMap R c
    pub all : total c ≡ total a + total b
    pub each : (g : G) → value_at R c g ≡ added (value_at R a g) (value_at R b g)

  -- the count of g is the one at the place
  pub record StandsAt (g : G) (at : ℕ) (counts : Map G ℕ) : Type 0 where
    pub within : at < length counts
    pub count : (d : G × ℕ) → value_at R counts g ≡ Some (get_or counts at d).1
    pub puts : (n : ℕ) (d : G × ℕ) → with_pair R counts g n ≡ set counts at ((get_or counts at d).0, n)

  -- g has no count, and the place is where one goes
  pub record GoesTo (g : G) (at : ℕ) (counts : Map G ℕ) : Type 0 where
    pub within : at ≤ length counts
    pub absent : value_at R counts g ≡ None
    pub puts : (n : ℕ) → with_pair R counts g n ≡ insert counts at (g, n)
