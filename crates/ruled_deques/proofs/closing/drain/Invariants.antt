use Rattle.std.proofs.Common.{◌≡◌, ◌+◌}
use Rattle.std.specs.List.{sum_by}
use Rattle.ruled_deques.specs.Counts.{owner_taken, owner_pushed, owner_shares}
use Rattle.ruled_deques.proofs.closing.drain.Given as goal

abbrev pub invariant-loop : goal.invariant-loop
invariant-loop g l =
    (owner_shares l.own.owner ≡ owner_shares l.initial.own.owner)
    × ((h : _) → owner_taken h l.own.owner + sum_by h l.initial.rest.items ≡ owner_taken h l.initial.own.owner + sum_by h l.rest.items)
    × ((h : _) → owner_pushed h l.own.owner ≡ owner_pushed h l.initial.own.owner)
