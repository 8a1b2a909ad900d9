use Rattle.bulk_ops.specs.Meanings.{MayAnswer}
use Rattle.map_view.proofs.Finding.{one_found}
use Rattle.map_view.proofs.finds.FindsBulkIn.one.Goals as goal

pub returns : goal.returns
returns g c =
    one_found (MayAnswer g.F.Fn c.args.self.now.test) (g.S.KeySlots.key_of c.args.key.now) (g.S.ValueSlots.value_of c.args.value.now) c.answer_in-passes.result _ c.answer_in-passes.ensures c.in_ok-found.ensures
