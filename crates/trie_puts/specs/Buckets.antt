-- What a put does to a leaf or bucket where it stands, whatever level it stands at.
use Rattle.std.specs.Prelude.{◌≡◌, ℕ, Bool, List, Option, option_map, get_or, slice_set as set}
use Rattle.std.specs.declared.cmp.Ordering.{Ordering}
use Rattle.trie_shape.specs.Tree.{IsTrie, bucket}
use Rattle.trie_puts.specs.PutInPlace.{PutsIn}
use Rattle.trie_copy.specs.Removals.{IsAt}
use Rattle.trie_puts.specs.declared.change.Change.{Change}
use Rattle.trie_copy.specs.declared.put.NewPair.{NewPair}

module _ {K V S X Y : Type 0} (value_of : Y → V) (R : K → K → Ordering) (path : K → ℕ) where
  -- the bucket, with the stamp of before, has become one with these pairs, by a put of the entry
  abbrev pub PutsAmong : NewPair K V S X Y → (Option V → Bool) → ℕ → List (K × V) → Change V S Y → ℕ → List (K × V) → Type 0
  PutsAmong entry holds before old change after new =
      (level : ℕ) → IsTrie R path level (bucket before old)
      → PutsIn R path level entry.stamp.0 entry.pair.0 entry.pair.1 holds (bucket before old) (option_map value_of change.previous) change.written (bucket after new)

  -- the same, where one pair of the bucket, at the place of the entry's key, has become another
  abbrev pub PutsAt : NewPair K V S X Y → (Option V → Bool) → ℕ → K × V → Change V S Y → ℕ → K × V → Type 0
  PutsAt entry holds before old change after new =
      (level : ℕ) (es : List (K × V)) (i : ℕ) → IsAt R entry.pair.0 i es → get_or es i old ≡ old → IsTrie R path level (bucket before es)
      → PutsIn R path level entry.stamp.0 entry.pair.0 entry.pair.1 holds (bucket before es) (option_map value_of change.previous) change.written (bucket after (set es i new))
