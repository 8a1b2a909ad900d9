use Rattle.stripes.proofs.Moments.{prefix_self}
use Rattle.stripes.proofs.stripes.Stripes.+moment_from.Goals as goal

pub returns-then-digit-eq-STRIPES-clause-seen : goal.returns-then-digit-eq-STRIPES-clause-seen
returns-then-digit-eq-STRIPES-clause-seen g t c = prefix_self c.args.front.now
