-- What the parts of operations over plain closures tell of a map: what is so for each meaning that the closure has.
use Rattle.std.specs.Prelude.{◌≡◌, ◌≤◌, ℕ, Bool, length}
use Rattle.versions.specs.Contents.{Contents}
use Rattle.versions.specs.Map.{Map}
use Rattle.versions.specs.declared.version.TheConstants.{MOST_PAIRS}
use Rattle.combiner.specs.Monoids.{folded}
use Rattle.bulk_work.specs.Answers.{items_of, passing}
use Rattle.bulk_ops.specs.Meanings.{Means}
use Rattle.trie_filter.specs.Passing.{AreChosen}
use Rattle.trie_values.specs.Values.{AreGiven}

module _ {K V : Type 0} where
  -- how many pairs pass, for each meaning of the closure; and in any case no more than there are pairs
  pub record IsCount (gives : K → V → Bool → Type 0) (m : Map K V) (count : ℕ) : Type 0 where
    pub few : count ≤ length m
    pub exact : (p : K → V → Bool) → Means gives p → count ≡ length (passing p m)

  -- the items of all pairs combined, for each meaning of the closure
  abbrev pub IsFold : {I : Type 0} → (I → I → I) → I → (K → V → I → Type 0) → Map K V → I → Type 0
  IsFold {I} op unit gives m all = (i : K → V → I) → Means gives i → all ≡ folded op unit (items_of i m)

  -- a map of the largest limit with some of the pairs: the closure may answer true at each of them, and false at each that is left out
  pub record IsFiltered (gives : K → V → Bool → Type 0) (m : Map K V) (made : Contents K V) : Type 0 where
    pub limit : made.limit ≡ MOST_PAIRS
    pub chosen : AreChosen gives m made.entries

  -- a map of the largest limit with the same keys, each with a value that the closure may make of its pair
  pub record IsMapped {W : Type 0} (gives : K → V → W → Type 0) (m : Map K V) (made : Contents K W) : Type 0 where
    pub limit : made.limit ≡ MOST_PAIRS
    pub given : AreGiven gives m made.entries
