-- What the counts of groups tell of a map: what is so for each meaning that the closure has.
use Rattle.std.specs.Prelude.{◌≡◌, ℕ, zero, suc, length, Option, Some, None}
use Rattle.std.specs.declared.cmp.Ordering.{Ordering}
use Rattle.std.specs.Ordering.{eq_by_cmp}
use Rattle.versions.specs.Map.{Map, IsMap, value_at}
use Rattle.bulk_work.specs.Answers.{passing}
use Rattle.bulk_ops.specs.Meanings.{Means}
use Rattle.group_counts.specs.Counts.{total}

-- the count of a group that n pairs have: none of a group with no pairs
abbrev pub if_any : ℕ → Option ℕ
if_any zero = None
if_any (suc n) = Some (suc n)

module _ {K V G : Type 0} (R : G → G → Ordering) where
  -- how many pairs of the map have the group g
  abbrev pub count_of : (K → V → G) → Map K V → G → ℕ
  count_of group m g = length (passing (λ k v. eq_by_cmp R g (group k v)) m)

  -- the groups stand in strictly rising order, and have as many pairs together as the map; and for each meaning of the
  -- closure they are those that some pair has, each with the number of the pairs that have it
  pub record IsGroups (gives : K → V → G → Type 0) (m : Map K V) (counts : Map G ℕ) : Type 0 where
    pub rising : IsMap R counts
    pub all : total counts ≡ length m
    pub exact : (group : K → V → G) → Means gives group → (g : G) → value_at R counts g ≡ if_any (count_of group m g)
