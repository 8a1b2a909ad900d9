use Rattle.std.proofs.Common.{arith}
use Rattle.std.proofs.lemmas.Result.{IfOk-weaker}
use Rattle.bulk_ops.specs.Meanings.{MayAnswer}
use Rattle.group_counts.proofs.Counting.{both_few, both_grouped}
use Rattle.group_counts.proofs.group_counts.GroupCountsBulkIn.join.Goals as goal

pub joined-requires : goal.joined-requires
joined-requires g c =
    let few = both_few g.G.Ord.cmp g.met.G.Ord.total (MayAnswer g.F.Fn c.args.self.now.group) g.K.Ord.cmp c.args.a.now c.args.b.now c.requires in
    omega (arith, few)

pub returns : goal.returns
returns g c =
    IfOk-weaker c.joined.result _ _
    (λ counts sum. both_grouped g.G.Ord.cmp g.met.G.Ord.total (MayAnswer g.F.Fn c.args.self.now.group) g.K.Ord.cmp g.met.K.Ord.total c.args.a.now c.args.b.now counts sum)
    c.joined.ensures
