use Rattle.ruled_deques.proofs.Rules.{merges}
use Rattle.ruled_deques.proofs.ends.OwnEnd.absorb.Goals as goal

pub absorb-requires-clause-rule : goal.absorb-requires-clause-rule
absorb-requires-clause-rule g c = merges _ _ _ _ c.args.self.now.port c.args.self.now.share
