-- What an exchange of a key's value makes of a root.
use Rattle.std.specs.Prelude.{◌≡◌, ℕ, Bool, true, Option, Some}
use Rattle.std.specs.declared.cmp.Ordering.{Ordering}
use Rattle.trie_shape.specs.Map.{value_at}
use Rattle.trie_shape.specs.Roots.{map_of}
use Rattle.trie_shape.specs.Tree.{Tree}
use Rattle.trie_copy.specs.Changes.{IsPut}
use Rattle.trie_puts.specs.declared.exchange.Exchange.{Exchange}
use Rattle.trie_puts.specs.declared.exchange.Exchange.TheVariants.{Done, Elsewhere}

module _ {K V S Y : Type 0} (value_of : Y → V) (R : K → K → Ordering) (path : K → ℕ) where
  -- the key k had a value that the condition holds of, and the value is put; or nothing is changed, and the value comes back
  abbrev pub IsExchange : ℕ → K → Y → (Option V → Bool) → Tree K V → Exchange V S Y → Tree K V → Type 0
  IsExchange stamp k value holds old (Done previous) new =
      (value_at R (map_of R old) k ≡ Some (value_of previous)) × (holds (Some (value_of previous)) ≡ true) × IsPut R path stamp k (value_of value) old new
  IsExchange stamp k value holds old (Elsewhere back) new = (back ≡ value) × (new ≡ old)
