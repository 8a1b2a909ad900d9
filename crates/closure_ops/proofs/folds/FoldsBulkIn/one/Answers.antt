use Rattle.std.proofs.Common.{ap, ◌∙◌}
use Rattle.bulk_ops.specs.Meanings.{MayAnswer}
use Rattle.closure_ops.proofs.Folding.{one_folded}
use Rattle.closure_ops.proofs.folds.FoldsBulkIn.one.Goals as goal

pub returns : goal.returns
returns g c =
    let monoid = c.args.self.now.monoid.now in
    one_folded (g.M.Monoid.combine monoid) (g.M.Monoid.unit_of monoid) (MayAnswer g.G.Fn c.args.self.now.item) (g.S.KeySlots.key_of c.args.key.now) (g.S.ValueSlots.value_of c.args.value.now) c.answer_in-item.result c.op.result c.answer_in-item.ensures
    (c.op.ensures.combined ∙ ap (g.M.Monoid.combine monoid c.answer_in-item.result) c.unit.ensures)
