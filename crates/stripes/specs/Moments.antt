-- What a history leaves the keys of several stripes.
use Rattle.std.specs.Prelude.{◌≡◌, ◌<◌, ◌≤◌, ℕ, List, None}
use Rattle.std.specs.declared.cmp.Ordering.{Ordering}
use Rattle.versions.specs.Map.{IsMap, Map, value_at}
use Rattle.write_history.specs.declared.entry.Entry.{Entry}
use Rattle.write_history.specs.Histories.{first_digit, value_in}

-- the map has the keys whose digit is this one or above, each with the value that the history leaves it
abbrev pub LeavesFrom : {K V : Type 0} → (K → K → Ordering) → (K → ℕ) → ℕ → List (Entry K V) → Map K V → Type 0
LeavesFrom {K} R path d log m = IsMap R m × ((q : K) → first_digit path q < d → value_at R m q ≡ None) × ((q : K) → d ≤ first_digit path q → value_at R m q ≡ value_in R path log q)
