use Rattle.std.proofs.Common.{◌≡◌}
use Rattle.stripes.specs.Stripes.{digits_of, up_to}
use Rattle.stripes.proofs.stripes.told_empties.Given as goal

abbrev pub invariant-loop-digit : goal.invariant-loop-digit
invariant-loop-digit g l = record {
  digits : digits_of l.stripes.items ≡ up_to l.digit;
  next : l.parts.next ≡ l.digit;
  authors : l.parts.authors ≡ l.fn.parts.authors;
}
