use Rattle.ruled_deques.proofs.Rules.{pops, finds}
use Rattle.ruled_deques.proofs.ends.OwnEnd.pop.Goals as goal

pub pop_as-requires-clause-lifo : goal.pop_as-requires-clause-lifo
pop_as-requires-clause-lifo g c = λ _. pops _ _ c.args.self.now.share

pub pop_as-requires-clause-empty : goal.pop_as-requires-clause-empty
pop_as-requires-clause-empty g c = finds _ _
