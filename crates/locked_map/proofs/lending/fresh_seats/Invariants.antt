use Rattle.std.proofs.Common.{◌≡◌, ◌-◌, ◌≤◌, vec_len}
use Rattle.locked_map.specs.Seats.{AllFresh}
use Rattle.locked_map.proofs.lending.fresh_seats.Given as goal

abbrev pub invariant-loop-number : goal.invariant-loop-number
invariant-loop-number g l = (vec_len l.seats ≡ l.number) × (l.number ≤ l.count) × AllFresh l.seats.items

abbrev pub decreases-loop-number : goal.decreases-loop-number
decreases-loop-number g l = l.count - l.number
