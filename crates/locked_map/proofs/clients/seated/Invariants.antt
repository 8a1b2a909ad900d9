use Rattle.std.proofs.Common.{◌≡◌, length, map}
use Rattle.locked_map.specs.Seats.{AllFresh}
use Rattle.locked_map.proofs.clients.seated.Given as goal

abbrev pub invariant-loop-client : goal.invariant-loop-client
invariant-loop-client g l = (l.number ≡ length l.yielded)
    × (map (λ b. b.client) l.jobs.items ≡ l.yielded)
    × AllFresh (map (λ b. b.seat) l.jobs.items)
