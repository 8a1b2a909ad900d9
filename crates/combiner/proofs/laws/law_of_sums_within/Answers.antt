use Rattle.std.proofs.Common.{ap, ◌∙◌}
use Rattle.combiner.proofs.Sums.{folded-within}
use Rattle.combiner.proofs.laws.law_of_sums_within.Goals as goal

pub returns : goal.returns
returns g c op item adds xs all few = folded-within op item adds xs ∙ ap item (c.law_of_sums.ensures xs all few)
