use Rattle.ruled_deques.proofs.Rules.{forks}
use Rattle.ruled_deques.proofs.ends.OwnEnd.share.Goals as goal

pub another-token-requires : goal.another-token-requires
another-token-requires g c = forks _ _ c.args.self.now.port c.requires
