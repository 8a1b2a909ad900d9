use Rattle.std.proofs.Common.{◌∷◌, []}
use Rattle.combiner.proofs.Additions.{can_join}
use Rattle.combiner.proofs.bulk_in.BulkIn.add.Goals as goal

pub join-requires : goal.join-requires
join-requires g c =
    can_join g.K.Ord.cmp (g.Self.BulkIn.answers c.args.self.now) c.in_ok-one.one c.args.part.now (g.S.KeySlots.key_of c.args.key.now) (g.S.ValueSlots.value_of c.args.value.now) c.in_ok-one.ensures c.requires.apart

pub returns-clause-added : goal.returns-clause-added
returns-clause-added g c m is apart =
    c.in_ok-part.ensures ((g.S.KeySlots.key_of c.args.key.now, (g.S.ValueSlots.value_of c.args.value.now)) ∷ []) m c.in_ok-one.ensures is apart
