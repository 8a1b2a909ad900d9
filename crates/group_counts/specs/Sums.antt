-- Items by groups: a finite map from each group to the items of its pairs combined.
use Rattle.std.specs.Prelude.{◌≡◌, ◌≤◌, List, [], ◌∷◌, length, Option, Some, None, Contains, IsSome}
use Rattle.std.specs.Option.{unwrap_or}
use Rattle.std.specs.Ordering.{eq_by_cmp}
use Rattle.std.specs.declared.cmp.Ordering.{Ordering}
use Rattle.versions.specs.Contents.{Contents}
use Rattle.versions.specs.Map.{Map, value_at, with_pair}
use Rattle.versions.specs.declared.version.TheConstants.{MOST_PAIRS}
use Rattle.combiner.specs.Monoids.{folded}
use Rattle.bulk_work.specs.Answers.{items_of, passing}
use Rattle.bulk_ops.specs.Meanings.{Means}

module _ {I : Type 0} (op : I → I → I) (unit : I) where
  -- what two maps have of one group, combined
  abbrev pub combined : Option I → Option I → Option I
  combined None b = b
  combined (Some a) b = Some (op a (unwrap_or b unit))

  -- all items combined: nothing where there are none
  abbrev pub folded_any : List I → Option I
  folded_any [] = None
  folded_any (a ∷ rest) = Some (folded op unit (a ∷ rest))

  module _ {G : Type 0} (R : G → G → Ordering) where
    -- the sums with one item more of the group g
    abbrev pub with_item : Map G I → G → I → Map G I
    with_item sums g a = with_pair R sums g (op a (unwrap_or (value_at R sums g) unit))

    -- c has of each group what a and b have, combined
    abbrev pub IsCombined : Map G I → Map G I → Map G I → Type 0
    IsCombined a b c = (g : G) → value_at R c g ≡ combined (value_at R a g) (value_at R b g)

    module _ {K V : Type 0} where
      -- the items of the pairs that have the group g
      abbrev pub items_in : (K → V → G) → (K → V → I) → Map K V → G → List I
      items_in group item m g = items_of item (passing (λ k v. eq_by_cmp R g (group k v)) m)

      -- a map of the largest limit with no more groups than there are pairs: each group is one that the closure named at some
      -- pair, and at each pair it named a group that is there; and for each meaning of the closures the groups are those that
      -- some pair has, each with the items of its pairs combined
      pub record IsGroupFold (gives : K → V → G → Type 0) (says : K → V → I → Type 0) (m : Map K V) (sums : Contents G I) : Type 0 where
        pub limit : sums.limit ≡ MOST_PAIRS
        pub few : length sums.entries ≤ length m
        pub named : (g : G) → IsSome (value_at R sums.entries g) → (x : K × V) × Contains m x × gives x.0 x.1 g
        pub there : (x : K × V) → Contains m x → (g : G) × gives x.0 x.1 g × IsSome (value_at R sums.entries g)
        pub exact : (group : K → V → G) (item : K → V → I) → Means gives group → Means says item → (g : G) → value_at R sums.entries g ≡ folded_any (items_in group item m g)
