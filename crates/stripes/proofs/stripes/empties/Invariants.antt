use Rattle.std.proofs.Common.{◌≡◌}
use Rattle.stripes.specs.Stripes.{digits_of, up_to}
use Rattle.stripes.proofs.stripes.empties.Given as goal

abbrev pub invariant-loop-digit : goal.invariant-loop-digit
invariant-loop-digit g l = digits_of l.stripes.items ≡ up_to l.digit
