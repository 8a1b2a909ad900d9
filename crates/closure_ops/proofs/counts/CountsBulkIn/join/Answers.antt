use Rattle.std.proofs.Common.{arith}
use Rattle.bulk_ops.specs.Meanings.{MayAnswer}
use Rattle.closure_ops.proofs.Counting.{both_counted, both_few}
use Rattle.closure_ops.proofs.counts.CountsBulkIn.join.Goals as goal

pub overflow_add-result : goal.overflow_add-result
overflow_add-result g c = omega (arith, both_few (MayAnswer g.F.Fn c.args.self.now.test) g.K.Ord.cmp c.args.a.now c.args.b.now c.requires)

pub returns : goal.returns
returns g c = both_counted (MayAnswer g.F.Fn c.args.self.now.test) g.K.Ord.cmp g.met.K.Ord.total c.args.a.now c.args.b.now
