use Rattle.std.proofs.Common.{ap}
use Rattle.std.specs.Prelude.{option_map}
use Rattle.bulk_ops.specs.Meanings.{MayAnswer}
use Rattle.map_view.specs.Questions.{pair_of}
use Rattle.map_view.proofs.Finding.{kept_if, next_if}
use Rattle.map_view.proofs.finds.FindsBulkIn.add.Goals as goal

pub returns-in-Some-clause-added : goal.returns-in-Some-clause-added
returns-in-Some-clause-added g c =
    kept_if (MayAnswer g.F.Fn c.args.self.now.test) g.K.Ord.cmp g.met.K.Ord.total (g.S.KeySlots.key_of c.args.key.now) (g.S.ValueSlots.value_of c.args.value.now) (option_map (pair_of g.S.KeySlots.key_of g.S.ValueSlots.value_of) c.args.part.now) ((pair_of g.S.KeySlots.key_of g.S.ValueSlots.value_of) c.in-Some.field-0) (ap (option_map (pair_of g.S.KeySlots.key_of g.S.ValueSlots.value_of)) c.in-Some.is)

pub returns-in_ok-part-in-None-clause-added : goal.returns-in_ok-part-in-None-clause-added
returns-in_ok-part-in-None-clause-added g c =
    next_if (MayAnswer g.F.Fn c.args.self.now.test) g.K.Ord.cmp g.met.K.Ord.total (g.S.KeySlots.key_of c.args.key.now) (g.S.ValueSlots.value_of c.args.value.now) c.answer_in-passes.result c.answer_in-passes.ensures (option_map (pair_of g.S.KeySlots.key_of g.S.ValueSlots.value_of) c.args.part.now) _ (ap (option_map (pair_of g.S.KeySlots.key_of g.S.ValueSlots.value_of)) c.in-None.is) c.in_ok-part-in-None.ensures
