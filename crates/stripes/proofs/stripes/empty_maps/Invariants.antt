use Rattle.std.proofs.Common.{◌≡◌, length}
use Rattle.stripes.proofs.stripes.empty_maps.Given as goal

-- a map for each digit so far
abbrev pub invariant-loop-digit : goal.invariant-loop-digit
invariant-loop-digit g l = length l.empty_maps.items ≡ l.digit
