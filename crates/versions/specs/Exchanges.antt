-- What an exchange of a key's value leaves.
use Rattle.std.specs.Prelude.{◌≡◌, ℕ, Bool, true, Option, Some}
use Rattle.std.specs.declared.cmp.Ordering.{Ordering}
use Rattle.trie_puts.specs.declared.exchange.Exchange.{Exchange}
use Rattle.trie_puts.specs.declared.exchange.Exchange.TheVariants.{Done, Elsewhere}
use Rattle.trie_shape.specs.Roots.{word_of}
use Rattle.trie_shape.specs.Shape.{Restamps}
use Rattle.versions.specs.Contents.{Contents}
use Rattle.versions.specs.Map.{value_at, with_pair}

module _ {K V S Y : Type 0} (value_of : Y → V) (R : K → K → Ordering) (path : K → ℕ) where
  -- the key k had a value that the condition holds of, and is mapped to this one; or nothing is changed, and this one comes back
  abbrev pub Exchanges : K → Y → (Option V → Bool) → Contents K V → Exchange V S Y → Contents K V → Type 0
  Exchanges k value holds old (Done previous) new =
      (value_at R old.entries k ≡ Some (value_of previous)) × (holds (Some (value_of previous)) ≡ true) × (new.entries ≡ with_pair R old.entries k (value_of value)) × (new.limit ≡ old.limit) × (new.stamp ≡ old.stamp) × Restamps old.stamp (word_of path k) old.nodes new.nodes
  Exchanges k value holds old (Elsewhere back) new = (back ≡ value) × (new ≡ old)
