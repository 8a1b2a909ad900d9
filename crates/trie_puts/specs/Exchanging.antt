-- What an exchange of a key's value does to a node where it stands.
use Rattle.std.specs.Prelude.{◌≡◌, ℕ, Bool, true, List, length, Option, Some, get_or, slice_set as set}
use Rattle.std.specs.declared.cmp.Ordering.{Ordering}
use Rattle.std.specs.FinMap.{find}
use Rattle.trie_shape.specs.Tree.{Tree, IsTrie, bucket, entries}
use Rattle.trie_copy.specs.Removals.{IsAt}
use Rattle.trie_copy.specs.Writes.{Writes}
use Rattle.trie_puts.specs.declared.exchange.Exchange.{Exchange}
use Rattle.trie_puts.specs.declared.exchange.Exchange.TheVariants.{Done, Elsewhere}

module _ {K V S Y : Type 0} (value_of : Y → V) (R : K → K → Ordering) (path : K → ℕ) where
  -- the key k had a value that the condition holds of, and has this one now; or nothing is changed, and the value comes back
  abbrev pub Exchanges : ℕ → ℕ → K → Y → (Option V → Bool) → Tree K V → Exchange V S Y → Tree K V → Type 0
  Exchanges level stamp k value holds old (Done previous) new =
      (find R k (entries old) ≡ Some (value_of previous)) × (holds (Some (value_of previous)) ≡ true) × Writes R path level stamp k (Some (value_of value)) old new × (length (entries new) ≡ length (entries old))
  Exchanges level stamp k value holds old (Elsewhere back) new = (back ≡ value) × (new ≡ old)

  -- the same, where one pair of a bucket, at the place of the key, has become another
  abbrev pub ExchangesAt : ℕ → Y → (Option V → Bool) → ℕ → K × V → Exchange V S Y → ℕ → K × V → Type 0
  ExchangesAt stamp value holds before old r after new =
      (k : K) (level : ℕ) (es : List (K × V)) (i : ℕ) → IsAt R k i es → get_or es i old ≡ old → IsTrie R path level (bucket before es)
      → Exchanges level stamp k value holds (bucket before es) r (bucket after (set es i new))
