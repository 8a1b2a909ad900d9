use Rattle.std.proofs.Common.{◌≡◌, map}
use Rattle.locked_map.proofs.clients.parted.Given as goal

abbrev pub invariant-loop-one : goal.invariant-loop-one
invariant-loop-one g l = (l.outs.items ≡ map (λ e. e.out) l.yielded) × (l.seats.items ≡ map (λ e. e.seat) l.yielded)
