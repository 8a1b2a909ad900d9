use Rattle.std.proofs.Common.{◌≡◌, ◌+◌, ℕ}
use Rattle.std.specs.List.Sorted.{IsStrictlySortedBy}
use Rattle.std.specs.Map.{keys_of}
use Rattle.std.specs.Ordering.{nat_cmp}
use Rattle.example_expiry.specs.Initials.{count_at}
use Rattle.example_expiry.proofs.initials.sum_of.Given as goal

-- what is summed and what is still to come are the counts of both
abbrev pub invariant-loop-byte : goal.invariant-loop-byte
invariant-loop-byte l =
    (goal.iterator-loop-byte).can_next l.byte-iterator
    × (goal.iterator-loop-byte).is_finite l.byte-iterator
    × IsStrictlySortedBy nat_cmp (keys_of l.byte-iterator)
    × ((byte : ℕ) → count_at l.sum byte + count_at l.byte-iterator byte ≡ count_at l.more byte + count_at l.fewer byte)
