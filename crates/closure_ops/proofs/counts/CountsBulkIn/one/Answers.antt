use Rattle.bulk_ops.specs.Meanings.{MayAnswer}
use Rattle.closure_ops.proofs.Counting.{one_counted}
use Rattle.closure_ops.proofs.counts.CountsBulkIn.one.Goals as goal

pub returns : goal.returns
returns g c =
    one_counted (MayAnswer g.F.Fn c.args.self.now.test) (g.S.KeySlots.key_of c.args.key.now) (g.S.ValueSlots.value_of c.args.value.now) c.answer_in.result c.from.result c.from.ensures c.answer_in.ensures
