use Rattle.std.proofs.Common.{◌≡◌, ◌+◌, ◌==◌, length}
use Rattle.std.specs.FinMap.Entries.{where_key}
use Rattle.std.specs.List.{starts_with}
use Rattle.keys.specs.Order.{bytes_cmp}
use Rattle.c_map.proofs.prefix.count_in.Given as goal

-- the pairs that are still to come
abbrev pub decreases-loop-key : goal.decreases-loop-key
decreases-loop-key g l = length l.walk

-- those that have the prefix so far, and those that have it among the others
abbrev pub invariant-loop-key : goal.invariant-loop-key
invariant-loop-key g l = l.count + length (where_key bytes_cmp (λ key. starts_with ◌==◌ key l.prefix) l.walk) ≡ length (where_key bytes_cmp (λ key. starts_with ◌==◌ key l.prefix) l.initial.walk)
