use Rattle.std.proofs.Common.{Ok}
use Rattle.bulk_ops.specs.Meanings.{MayAnswer}
use Rattle.group_counts.proofs.Folds.{both_summed, joined_limit, joined_room}
use Rattle.group_counts.proofs.group_folds.GroupFoldsBulkIn.join.Goals as goal

pub joined_sums-requires-clause-limit : goal.joined_sums-requires-clause-limit
joined_sums-requires-clause-limit g c =
    let monoid = c.args.self.now.monoid.now in
    joined_limit (g.M.Monoid.combine monoid) (g.M.Monoid.unit_of monoid) g.G.Ord.cmp (λ k v group. MayAnswer g.F.Fn c.args.self.now.group k v (Ok group)) (MayAnswer g.I.Fn c.args.self.now.item) g.K.Ord.cmp c.args.a.now c.args.b.now c.requires

pub joined_sums-requires-clause-room : goal.joined_sums-requires-clause-room
joined_sums-requires-clause-room g c =
    let monoid = c.args.self.now.monoid.now in
    joined_room (g.M.Monoid.combine monoid) (g.M.Monoid.unit_of monoid) g.G.Ord.cmp (λ k v group. MayAnswer g.F.Fn c.args.self.now.group k v (Ok group)) (MayAnswer g.I.Fn c.args.self.now.item) g.K.Ord.cmp c.args.a.now c.args.b.now c.requires

pub returns : goal.returns
returns g c =
    let monoid = c.args.self.now.monoid.now in
    let laws = g.met.M.Monoid in
    both_summed (g.M.Monoid.combine monoid) (g.M.Monoid.unit_of monoid) (g.M.Monoid.is_item monoid)
    (laws.associative monoid) (laws.commutative monoid) (laws.neutral monoid) (laws.closed monoid) (laws.unit_is_item monoid)
    g.K.Ord.cmp g.met.K.Ord.total g.G.Ord.cmp (λ k v group. MayAnswer g.F.Fn c.args.self.now.group k v (Ok group)) (MayAnswer g.I.Fn c.args.self.now.item) g.met.K.PathKey.exact
    c.args.a.now c.args.b.now _ c.in_ok-both.ensures.each c.in_ok-both.ensures.limit c.in_ok-both.ensures.few
