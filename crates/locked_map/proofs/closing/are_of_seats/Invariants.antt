use Rattle.std.proofs.Common.{◌<◌, All, take}
use Rattle.journal.specs.Tokens.{entries_of}
use Rattle.locked_map.proofs.closing.are_of_seats.Given as goal

-- the entries so far are of these seats
abbrev pub invariant-loop-token : goal.invariant-loop-token
invariant-loop-token g l = All (λ e. e.seat < l.count) (entries_of (take l.token-index l.token-items))
