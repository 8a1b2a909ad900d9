use Rattle.std.proofs.Common.{Ok}
use Rattle.std.proofs.lemmas.Result.{on_ok_weaker}
use Rattle.bulk_ops.specs.Meanings.{MayAnswer}
use Rattle.group_counts.proofs.Folds.{added_room, one_summed_more}
use Rattle.group_counts.proofs.group_folds.GroupFoldsBulkIn.add.Goals as goal

pub add_item-requires : goal.add_item-requires
add_item-requires g c =
    let monoid = c.args.self.now.monoid.now in
    added_room (g.M.Monoid.combine monoid) (g.M.Monoid.unit_of monoid) g.G.Ord.cmp (λ k v group. MayAnswer g.F.Fn c.args.self.now.group k v (Ok group)) (MayAnswer g.I.Fn c.args.self.now.item) g.K.Ord.cmp (g.S.KeySlots.key_of c.args.key.now) (g.S.ValueSlots.value_of c.args.value.now) c.args.part.now c.requires.apart

pub returns-clause-added : goal.returns-clause-added
returns-clause-added g c =
    let monoid = c.args.self.now.monoid.now in
    let laws = g.met.M.Monoid in
    on_ok_weaker c.add_item.result
    (λ is. one_summed_more (g.M.Monoid.combine monoid) (g.M.Monoid.unit_of monoid) (g.M.Monoid.is_item monoid)
    (laws.associative monoid) (laws.commutative monoid) (laws.neutral monoid) (laws.closed monoid) (laws.unit_is_item monoid)
    g.K.Ord.cmp g.met.K.Ord.total g.G.Ord.cmp (λ k v group. MayAnswer g.F.Fn c.args.self.now.group k v (Ok group)) (MayAnswer g.I.Fn c.args.self.now.item) g.met.K.PathKey.exact g.met.G.Ord.total g.met.G.PathKey.exact
    (g.S.KeySlots.key_of c.args.key.now) (g.S.ValueSlots.value_of c.args.value.now) c.in_ok-group.group.value c.answer_in-item.result c.args.part.now c.add_item.new.sums c.in_ok-group.ensures c.answer_in-item.ensures is c.add_item.ensures.limit)
    c.add_item.ensures.entries
