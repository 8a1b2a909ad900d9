use Rattle.std.proofs.Common.{◌≡◌}
use Rattle.std.specs.Prelude.{All}
use Rattle.stripe.specs.Contents.{IsPart}
use Rattle.stripes.specs.Stripes.{digits_of, up_to}
use Rattle.stripes.proofs.parting.parted.Given as goal

-- those so far are parts, of the digits so far
abbrev pub invariant-loop-digit : goal.invariant-loop-digit
invariant-loop-digit g l = record {
  parts : All (IsPart g.K.Ord.cmp g.K.PathKey.path_of l.whole.entries) l.stripes.items;
  digits : digits_of l.stripes.items ≡ up_to l.digit;
}
