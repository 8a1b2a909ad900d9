use Rattle.std.proofs.Common.{arith}
use Rattle.bulk_ops.specs.Meanings.{MayAnswer}
use Rattle.closure_ops.proofs.Counting.{has_room, number_few, one_more}
use Rattle.closure_ops.proofs.counts.CountsBulkIn.add.Goals as goal

pub overflow_add-part : goal.overflow_add-part
overflow_add-part g c =
    let room = has_room (MayAnswer g.F.Fn c.args.self.now.test) g.K.Ord.cmp (g.S.KeySlots.key_of c.args.key.now) (g.S.ValueSlots.value_of c.args.value.now) c.args.part.now c.requires.apart in
    omega (arith, room, number_few c.answer_in.result c.from.result c.from.ensures)

pub returns-clause-added : goal.returns-clause-added
returns-clause-added g c =
    one_more (MayAnswer g.F.Fn c.args.self.now.test) g.K.Ord.cmp g.met.K.Ord.total (g.S.KeySlots.key_of c.args.key.now) (g.S.ValueSlots.value_of c.args.value.now) c.answer_in.result c.args.part.now c.from.result c.from.ensures c.answer_in.ensures
