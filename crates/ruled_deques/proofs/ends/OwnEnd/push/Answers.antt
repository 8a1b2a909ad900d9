use Rattle.ruled_deques.proofs.Rules.{pushes}
use Rattle.ruled_deques.proofs.ends.OwnEnd.push.Goals as goal

pub push_as-requires-clause-pushes : goal.push_as-requires-clause-pushes
push_as-requires-clause-pushes g c = pushes _ _ _ c.args.self.now.port c.args.self.now.share
