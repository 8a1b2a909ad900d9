use Rattle.std.proofs.Common.{[], ◌∷◌}
use Rattle.bulk_ops.specs.Meanings.{MayAnswer}
use Rattle.closure_ops.specs.Parts.{IsMapped}
use Rattle.closure_ops.proofs.Joining.{can_join_pair}
use Rattle.closure_ops.proofs.new_values.NewValuesBulkIn.add.Goals as goal

pub join-all-requires : goal.join-all-requires
join-all-requires g c =
    can_join_pair g.K.Ord.cmp (IsMapped (MayAnswer g.G.Fn c.args.self.now.change)) c.in_ok-one.one c.args.part.now (g.S.KeySlots.key_of c.args.key.now) (g.S.ValueSlots-1.value_of c.args.value.now) c.in_ok-one.ensures c.requires.apart

pub returns-clause-added : goal.returns-clause-added
returns-clause-added g c m is apart =
    rw c.replace.ensures.after (c.in_ok-all.ensures ((g.S.KeySlots.key_of c.args.key.now, (g.S.ValueSlots-1.value_of c.args.value.now)) ∷ []) m c.in_ok-one.ensures is apart)
