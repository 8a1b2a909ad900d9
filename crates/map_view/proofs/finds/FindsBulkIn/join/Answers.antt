use Rattle.std.specs.Prelude.{option_map}
use Rattle.bulk_ops.specs.Meanings.{MayAnswer}
use Rattle.map_view.specs.Questions.{pair_of}
use Rattle.map_view.proofs.Finding.{both_found}
use Rattle.map_view.proofs.finds.FindsBulkIn.join.Goals as goal

pub returns : goal.returns
returns g c =
    both_found g.K.Ord.cmp g.met.K.Ord.total (MayAnswer g.F.Fn c.args.self.now.test) (option_map (pair_of g.S.KeySlots.key_of g.S.ValueSlots.value_of) c.args.a.now) (option_map (pair_of g.S.KeySlots.key_of g.S.ValueSlots.value_of) c.args.b.now) _ c.in_ok-found.ensures
