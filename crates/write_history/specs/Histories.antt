-- Histories of writes, and the values that they leave.
use Rattle.std.specs.Prelude.{◌≡◌, ℕ, ◌+◌, ◌==◌, Bool, true, false, List, [], ◌∷◌, Option, Some, None, if◌then◌else◌, nat_lt}
use Rattle.std.specs.declared.cmp.Ordering.{Ordering}
use Rattle.std.specs.Ordering.{eq_by_cmp}
use Rattle.hash_path.specs.Digits.{digit, fan_out}
use Rattle.write_history.specs.declared.entry.Entry.{Entry}
use Rattle.write_history.specs.declared.entry.Write.{Write}
use Rattle.write_history.specs.declared.entry.Write.TheVariants.{Put, Remove, Clear}

-- the author signed
abbrev pub is_by : ℕ → Option ℕ → Bool
is_by a None = false
is_by a (Some b) = b == a

module _ {K : Type 0} (path : K → ℕ) where
  -- the first digit of a key's word
  abbrev pub first_digit : K → ℕ
  first_digit k = digit (path k) 0

  module _ {V : Type 0} where
    -- whether the write is of a key of the digit, or of all keys
    abbrev pub is_of : ℕ → Write K V → Bool
    is_of d (Put k v) = first_digit k == d
    is_of d (Remove k) = first_digit k == d
    is_of d Clear = true

    -- the write is of one key, which has this digit
    abbrev pub IsOf : ℕ → Write K V → Type 0
    IsOf d (Put k v) = first_digit k ≡ d
    IsOf d (Remove k) = first_digit k ≡ d
    IsOf d Clear = ⊥

    -- whether the cell counts the entry: the first cells are those of the digits, the others those of authors
    abbrev pub is_counted : ℕ → Entry K V → Bool
    is_counted k e = if nat_lt k fan_out then is_of k e.write else is_by k e.by

    -- how many entries the cell counts
    abbrev pub count_of : ℕ → List (Entry K V) → ℕ
    count_of k [] = 0
    count_of k (e ∷ es) = (if is_counted k e then 1 else 0) + count_of k es

module _ {K V : Type 0} (R : K → K → Ordering) (path : K → ℕ) where
  -- the value of a key after a write, from the one before
  abbrev pub value_after : K → Option V → Write K V → Option V
  value_after q old (Put k v) = if eq_by_cmp R q k then Some v else old
  value_after q old (Remove k) = if eq_by_cmp R k q then None else old
  value_after q old Clear = None

  -- the same after entries, the first one first
  abbrev pub value_from : K → Option V → List (Entry K V) → Option V
  value_from q old [] = old
  value_from q old (e ∷ es) = value_from q (value_after q old e.write) es

  -- the value that a history leaves a key
  abbrev pub value_in : List (Entry K V) → K → Option V
  value_in log q = value_from q None log

  -- two histories leave each key of the digit one value
  abbrev pub IsSame : Option ℕ → List (Entry K V) → List (Entry K V) → Type 0
  IsSame d f h = (q : K) → d ≡ Some (first_digit path q) → value_in h q ≡ value_in f q
