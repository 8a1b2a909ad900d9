use Rattle.ruled_deques.proofs.Rules.{begins}
use Rattle.ruled_deques.proofs.opening.open_one.Goals as goal

pub lifo_as-requires : goal.lifo_as-requires
lifo_as-requires g c = begins
