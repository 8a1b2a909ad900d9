use Rattle.std.proofs.Common.{rules}
use Rattle.ruled_deques.proofs.Rules.{pushes}
use Rattle.ruled_deques.proofs.opening.open_first.Goals as goal

pub push_as-requires-clause-pushes : goal.push_as-requires-clause-pushes
push_as-requires-clause-pushes g c = pushes _ _ _ (search rules) (search rules)
