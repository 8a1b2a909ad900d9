use Rattle.std.proofs.Common.{length}
use Rattle.stripes.proofs.clearing.+clear_from.Given as goal

abbrev pub decreases-clear_from : goal.decreases-clear_from
decreases-clear_from g l = length l.held.items
