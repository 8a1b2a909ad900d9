use Rattle.combiner.proofs.Sums.{wrapped-is_plain}
use Rattle.combiner.proofs.laws.law_of_sums.Goals as goal

pub returns : goal.returns
returns c = wrapped-is_plain
