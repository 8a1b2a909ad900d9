-- Roots put together: those of maps whose keys' words have one first digit each.
use Rattle.std.specs.Prelude.{◌≡◌, ◌≢◌, ℕ, true, is_some}
use Rattle.std.specs.declared.cmp.Ordering.{Ordering}
use Rattle.hash_path.specs.Digits.{digit}
use Rattle.trie_shape.specs.Map.{Map, value_at}

-- the pairs so far, and the greatest stamp that their nodes may have
pub record United (K V : Type 0) : Type 0 where
  pub entries : Map K V
  pub newest : ℕ

module _ {K V : Type 0} (R : K → K → Ordering) (path : K → ℕ) (d : ℕ) where
  -- the word of each key of the map has this first digit
  abbrev pub EachHasDigit : Map K V → Type 0
  EachHasDigit m = (k : K) → is_some (value_at R m k) ≡ true → digit (path k) 0 ≡ d

  -- the word of no key of the map has it
  abbrev pub NoneHasDigit : Map K V → Type 0
  NoneHasDigit m = (k : K) → is_some (value_at R m k) ≡ true → digit (path k) 0 ≢ d
