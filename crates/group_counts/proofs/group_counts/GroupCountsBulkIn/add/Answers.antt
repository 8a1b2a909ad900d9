use Rattle.std.proofs.Common.{arith}
use Rattle.std.proofs.lemmas.Result.{on_ok_weaker}
use Rattle.bulk_ops.specs.Meanings.{MayAnswer}
use Rattle.group_counts.proofs.Counting.{has_room, one_more}
use Rattle.group_counts.proofs.group_counts.GroupCountsBulkIn.add.Goals as goal

pub count_one-requires : goal.count_one-requires
count_one-requires g c =
    let room = has_room g.G.Ord.cmp g.met.G.Ord.total (MayAnswer g.F.Fn c.args.self.now.group) g.K.Ord.cmp (g.S.KeySlots.key_of c.args.key.now) (g.S.ValueSlots.value_of c.args.value.now) c.args.part.now c.requires.apart in
    omega (arith, room)

pub returns-clause-added : goal.returns-clause-added
returns-clause-added g c =
    on_ok_weaker c.count_one.result
    (one_more g.G.Ord.cmp g.met.G.Ord.total (MayAnswer g.F.Fn c.args.self.now.group) g.K.Ord.cmp g.met.K.Ord.total (g.S.KeySlots.key_of c.args.key.now) (g.S.ValueSlots.value_of c.args.value.now) c.answer_in.result c.args.part.now c.count_one.new.self c.answer_in.ensures)
    c.count_one.ensures.ok
