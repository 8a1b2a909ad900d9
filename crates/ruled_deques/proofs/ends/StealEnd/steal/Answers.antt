use Rattle.std.proofs.Common.{arith}
use Rattle.ruled_deques.proofs.Rules.{takes}
use Rattle.ruled_deques.proofs.ends.StealEnd.steal.Goals as goal

pub steal_as-requires-clause-takes : goal.steal_as-requires-clause-takes
steal_as-requires-clause-takes g c = let p = c.args.self.now.share in takes _ _ (omega arith)
