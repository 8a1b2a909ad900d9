use Rattle.std.proofs.Common.{[], ◌∷◌, ap, ◌∙◌}
use Rattle.bulk_ops.specs.Meanings.{MayAnswer}
use Rattle.closure_ops.proofs.Making.{one_mapped}
use Rattle.closure_ops.proofs.new_values.NewValuesBulkIn.one.Goals as goal

pub returns : goal.returns
returns g c =
    one_mapped (MayAnswer g.G.Fn c.args.self.now.change) (g.S.KeySlots.key_of c.args.key.now) (g.S.ValueSlots-1.value_of c.args.value.now) c.answer_in.result _ c.answer_in.ensures (c.in_ok-made.ensures.entries ∙ ap (λ w. (g.S.KeySlots.key_of c.args.key.now, w) ∷ []) c.in_ok-new.ensures.ok) c.in_ok-made.ensures.limit
