use Rattle.std.proofs.Common.{◌∷◌, []}
use Rattle.combiner.proofs.Additions.{can_join}
use Rattle.combiner.proofs.bulk.Bulk.add.Goals as goal

pub join-requires : goal.join-requires
join-requires g c =
    can_join g.K.Ord.cmp (g.Self.Bulk.answers c.args.self.now) c.in_ok-one.one c.args.part.now c.args.key.now.value c.args.value.now.value c.in_ok-one.ensures c.requires.apart

pub returns-clause-added : goal.returns-clause-added
returns-clause-added g c m is apart =
    c.in_ok-part.ensures ((c.args.key.now.value, c.args.value.now.value) ∷ []) m c.in_ok-one.ensures is apart
