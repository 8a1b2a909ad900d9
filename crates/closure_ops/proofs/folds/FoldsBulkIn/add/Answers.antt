use Rattle.bulk_ops.specs.Meanings.{MayAnswer}
use Rattle.closure_ops.proofs.Folding.{one_more}
use Rattle.closure_ops.proofs.folds.FoldsBulkIn.add.Goals as goal

pub returns-clause-added : goal.returns-clause-added
returns-clause-added g c =
    let monoid = c.args.self.now.monoid.now in
    let laws = g.met.M.Monoid in
    one_more (g.M.Monoid.combine monoid) (g.M.Monoid.unit_of monoid) (MayAnswer g.G.Fn c.args.self.now.item) g.K.Ord.cmp g.met.K.Ord.total (g.M.Monoid.is_item monoid)
    (laws.associative monoid) (laws.commutative monoid) (laws.neutral monoid) (laws.closed monoid) (laws.unit_is_item monoid)
    (g.S.KeySlots.key_of c.args.key.now) (g.S.ValueSlots.value_of c.args.value.now) c.answer_in.result c.args.part.now c.op-all.result c.answer_in.ensures c.op-all.ensures.combined
