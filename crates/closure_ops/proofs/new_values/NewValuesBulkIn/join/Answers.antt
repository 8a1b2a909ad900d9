use Rattle.bulk_ops.specs.Meanings.{MayAnswer}
use Rattle.closure_ops.proofs.Making.{both_mapped, mapped_limits, mapped_room}
use Rattle.closure_ops.proofs.new_values.NewValuesBulkIn.join.Goals as goal

pub merge-requires-clause-limits : goal.merge-requires-clause-limits
merge-requires-clause-limits g c = mapped_limits (MayAnswer g.G.Fn c.args.self.now.change) g.K.Ord.cmp c.args.a.now c.args.b.now c.requires

pub merge-requires-clause-room : goal.merge-requires-clause-room
merge-requires-clause-room g c = mapped_room (MayAnswer g.G.Fn c.args.self.now.change) g.K.Ord.cmp c.args.a.now c.args.b.now c.requires

pub returns : goal.returns
returns g c =
    both_mapped (MayAnswer g.G.Fn c.args.self.now.change) g.K.Ord.cmp g.met.K.Ord.total g.met.K.PathKey.exact c.args.a.now c.args.b.now _ c.in_ok-both.ensures.entries c.in_ok-both.ensures.limit
