use Rattle.std.proofs.Common.{Ok}
use Rattle.bulk_ops.specs.Meanings.{MayAnswer}
use Rattle.group_counts.proofs.Folds.{none_summed}
use Rattle.group_counts.proofs.group_folds.GroupFoldsBulkIn.unit.Goals as goal

pub returns : goal.returns
returns g c =
    let monoid = c.args.self.now.monoid.now in
    none_summed (g.M.Monoid.combine monoid) (g.M.Monoid.unit_of monoid) g.G.Ord.cmp (λ k v group. MayAnswer g.F.Fn c.args.self.now.group k v (Ok group)) (MayAnswer g.I.Fn c.args.self.now.item) _ c.in_ok-none.ensures.entries c.in_ok-none.ensures.limit
