-- How intervals cover positions.
use Rattle.std.proofs.Common.{◌≡◌, ℕ, ◌+◌, ◌≤◌, cond, [], ◌∷◌, arith}
use Rattle.std.proofs.lemmas.Bool.Decides.{nat_tests}
use Rattle.iter.specs.declared.interval.Interval.{Interval}
use Rattle.iter.specs.Intervals.{lies_in, Tile}

-- how often one interval has a position
abbrev pub once : Interval → ℕ → ℕ
once i p = cond (lies_in i p) 1 0

-- an interval is the one below a position within it and the one from there on
pub once_cut : (i : Interval) (mid p : ℕ) → i.lo ≤ mid → mid ≤ i.hi → once (record { lo = i.lo; hi = mid }) p + once (record { lo = mid; hi = i.hi }) p ≡ once i p
once_cut i mid p low high = grind (arith, nat_tests)

pub cut_tiles : (i : Interval) (mid : ℕ) → i.lo ≤ mid → mid ≤ i.hi → Tile (record { lo = i.lo; hi = mid } ∷ record { lo = mid; hi = i.hi } ∷ []) i
cut_tiles i mid low high p = omega (arith, once_cut i mid p low high)

-- the same for two positions
pub cuts_tile : (i : Interval) (a b : ℕ) → i.lo ≤ a → a ≤ b → b ≤ i.hi → Tile (record { lo = i.lo; hi = a } ∷ record { lo = a; hi = b } ∷ record { lo = b; hi = i.hi } ∷ []) i
cuts_tile i a b low mid high p = omega (arith, once_cut i a p low (omega arith), once_cut (record { lo = a; hi = i.hi }) b p mid high)
