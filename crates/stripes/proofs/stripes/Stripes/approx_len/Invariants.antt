use Rattle.std.proofs.Common.{◌≤◌, ◌*◌}
use Rattle.stripe.specs.declared.stripe.TheConstants.{MOST_PAIRS_OF_STRIPE}
use Rattle.stripes.proofs.stripes.Stripes.approx_len.Given as goal

abbrev pub invariant-loop-digit : goal.invariant-loop-digit
invariant-loop-digit g l = l.pairs ≤ l.digit * MOST_PAIRS_OF_STRIPE
