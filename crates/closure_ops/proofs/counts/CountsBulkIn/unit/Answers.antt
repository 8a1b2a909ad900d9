use Rattle.bulk_ops.specs.Meanings.{MayAnswer}
use Rattle.closure_ops.proofs.Counting.{none_counted}
use Rattle.closure_ops.proofs.counts.CountsBulkIn.unit.Goals as goal

pub returns : goal.returns
returns g c = none_counted (MayAnswer g.F.Fn c.args.self.now.test)
