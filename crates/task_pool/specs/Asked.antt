-- For which intervals workers asked a gate.
use Rattle.std.specs.Prelude.{◌≡◌, ◌<◌, ◌^◌, ℕ, All, List, length, slice_index_or}
use Rattle.iter.specs.declared.interval.Interval.{Interval}

-- list k has intervals that worker k asked for
abbrev pub EachAsked : (ℕ → Interval → Type 0) → List (List Interval) → Type 0
EachAsked Asked lists = (k : ℕ) (d : List Interval) → k < length lists → All (Asked k) (slice_index_or lists k d)

-- the worker of the place asked for all of the new list, if it did for all of the old one
abbrev pub KeepsAsked : (ℕ → Interval → Type 0) → ℕ → List Interval → List Interval → Type 0
KeepsAsked Asked place old new = (k : ℕ) → place ≡ k → k < 2 ^ 32 → All (Asked k) old → All (Asked k) new
