-- How many names begin with each byte.
use Rattle.std.specs.Prelude.{◌≡◌, ℕ, Bool, false, ◌==◌, List, [], ◌∷◌, length}
use Rattle.std.specs.BTreeMap.{is_at}
use Rattle.std.specs.Map.{lookup}
use Rattle.std.specs.Option.{unwrap_or}
use Rattle.std.specs.Ordering.{nat_cmp}
use Rattle.versions.specs.Map.{Map}
use Rattle.bulk_work.specs.Answers.{passing}

-- bytes, each with its count
abbrev pub Counts : Type 0
Counts = List (ℕ × ℕ)

-- the count of the byte; where there is none, it is 0
abbrev pub count_at : Counts → ℕ → ℕ
count_at counts byte = unwrap_or (lookup (is_at (nat_cmp byte)) counts) 0

-- the name begins with the byte; one with no bytes begins with none
abbrev pub begins_with : ℕ → List ℕ → Bool
begins_with byte [] = false
begins_with byte (first ∷ rest) = byte == first

module _ {V : Type 0} where
  -- how many names of a registry begin with the byte
  abbrev pub how_many_begin : ℕ → Map (List ℕ) V → ℕ
  how_many_begin byte m = length (passing (λ name value. begins_with byte name) m)

  -- the count of each byte is that of the registry's names that begin with it
  abbrev pub AreInitials : Map (List ℕ) V → Counts → Type 0
  AreInitials m counts = (byte : ℕ) → count_at counts byte ≡ how_many_begin byte m
