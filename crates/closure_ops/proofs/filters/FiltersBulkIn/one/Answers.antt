use Rattle.bulk_ops.specs.Meanings.{MayAnswer}
use Rattle.closure_ops.proofs.Making.{one_filtered}
use Rattle.closure_ops.proofs.filters.FiltersBulkIn.one.Goals as goal

pub returns : goal.returns
returns g c =
    one_filtered (MayAnswer g.F.Fn c.args.self.now.test) (g.S.KeySlots.key_of c.args.key.now) (g.S.ValueSlots.value_of c.args.value.now) c.answer_in-passes.result _ c.answer_in-passes.ensures c.in_ok-made.ensures.entries c.in_ok-made.ensures.limit
