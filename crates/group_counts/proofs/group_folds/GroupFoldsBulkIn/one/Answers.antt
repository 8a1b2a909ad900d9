use Rattle.std.proofs.Common.{Ok}
use Rattle.bulk_ops.specs.Meanings.{MayAnswer}
use Rattle.group_counts.proofs.Folds.{one_summed}
use Rattle.group_counts.proofs.group_folds.GroupFoldsBulkIn.one.Goals as goal

pub returns : goal.returns
returns g c =
    let monoid = c.args.self.now.monoid.now in
    one_summed (g.M.Monoid.combine monoid) (g.M.Monoid.unit_of monoid) g.G.Ord.cmp (λ k v group. MayAnswer g.F.Fn c.args.self.now.group k v (Ok group)) (MayAnswer g.I.Fn c.args.self.now.item) g.met.G.Ord.total g.met.G.PathKey.exact
    (g.S.KeySlots.key_of c.args.key.now) (g.S.ValueSlots.value_of c.args.value.now) c.in_ok-group.group.value c.answer_in-item.result _ c.in_ok-group.ensures c.answer_in-item.ensures c.in_ok-sums.ensures.entries c.in_ok-sums.ensures.limit
