use Rattle.bulk_ops.specs.Meanings.{MayAnswer}
use Rattle.closure_ops.proofs.Folding.{both_folded}
use Rattle.closure_ops.proofs.folds.FoldsBulkIn.join.Goals as goal

pub returns : goal.returns
returns g c =
    let monoid = c.args.self.now.monoid.now in
    let laws = g.met.M.Monoid in
    both_folded (g.M.Monoid.combine monoid) (g.M.Monoid.unit_of monoid) (MayAnswer g.G.Fn c.args.self.now.item) g.K.Ord.cmp g.met.K.Ord.total (g.M.Monoid.is_item monoid)
    (laws.associative monoid) (laws.commutative monoid) (laws.neutral monoid) (laws.closed monoid) (laws.unit_is_item monoid)
    c.args.a.now c.args.b.now c.op.result c.op.ensures.combined
