-- What the history of a map says of a stripe.
use Rattle.std.specs.Prelude.{◌≡◌, ◌<◌, ℕ, List, [], ◌∷◌, ◌++◌, Option, Some, None, if◌then◌else◌, nat_lt}
use Rattle.std.specs.declared.cmp.Ordering.{Ordering}
use mathlib.Core.List.{IsPrefix}
use Rattle.hash_path.specs.Digits.{fan_out}
use Rattle.versions.specs.Map.{Map, value_at}
use Rattle.write_history.specs.declared.entry.Entry.{Entry}
use Rattle.write_history.specs.declared.entry.Write.TheVariants.{Clear}
use Rattle.write_history.specs.Histories.{first_digit, value_in}

-- the number as a digit, if it is one
abbrev pub as_digit : ℕ → Option ℕ
as_digit d = if nat_lt d fan_out then Some d else None

-- each key of the digit has in the map the value that the history leaves it
abbrev pub Tells : {K V : Type 0} → (K → K → Ordering) → (K → ℕ) → ℕ → Map K V → List (Entry K V) → Type 0
Tells {K} R path d m log = (q : K) → first_digit path q ≡ d → value_at R m q ≡ value_in R path log q

-- the last entry of the history is the removal of all keys
abbrev pub EndsCleared : {K V : Type 0} → List (Entry K V) → Type 0
EndsCleared {K} {V} log = (h : List (Entry K V)) × (by : Option ℕ) × (log ≡ h ++ record { by = by; write = Clear } ∷ [])

-- in a history that goes on from this one, the stripe of the digit has pairs of which that holds
abbrev pub Finds : {K V : Type 0} → (K → K → Ordering) → (K → ℕ) → ℕ → List (Entry K V) → (Map K V → Type 0) → Type 0
Finds {K} {V} R path d seen P = (h : List (Entry K V)) × (pairs : Map K V) × IsPrefix seen h × Tells R path d pairs h × P pairs
