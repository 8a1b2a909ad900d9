-- What a stripe has: the pairs whose keys' words have one first digit.
use Rattle.std.specs.Prelude.{◌≡◌, ℕ, ◌==◌, if◌then◌else◌, None, List, []}
use Rattle.std.specs.declared.cmp.Ordering.{Ordering}
use Rattle.hash_path.specs.Digits.{digit}
use Rattle.stripe.specs.declared.stripe.TheConstants.{MOST_PAIRS_OF_STRIPE}
use Rattle.versions.specs.Contents.{Contents}
use Rattle.versions.specs.Map.{Map, value_at}
use Rattle.write_history.specs.declared.entry.Entry.{Entry}

-- the pairs of one stripe, the first digit of the words of their keys, and the history that was seen last, if there is one
pub record Content (K V : Type 0) : Type 0 where
  pub entries : Map K V
  pub digit : ℕ
  pub log : List (Entry K V)

module _ {K V : Type 0} where
  -- the map has no pairs and the limit of a stripe
  abbrev pub IsEmptyMap : Contents K V → Type 0
  IsEmptyMap c = (c.entries ≡ []) × (c.limit ≡ MOST_PAIRS_OF_STRIPE)

  -- the stripe has, at the keys of its digit, what the map has, and no other key
  abbrev pub IsPart : (K → K → Ordering) → (K → ℕ) → Map K V → Content K V → Type 0
  IsPart R path m s = (k : K) → value_at R s.entries k ≡ (if digit (path k) 0 == s.digit then value_at R m k else None)
