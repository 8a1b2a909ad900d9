use Rattle.std.proofs.Common.{◌≡◌, sym, subst}
use Rattle.iter.specs.Intervals.{part}
use Rattle.combiner.specs.Bulks.{CanJoinMap}
use Rattle.partial_results.proofs.task.Task.work_into.Goals as goal

-- the piece is of the call's map
pub grow_in-requires-clause-apart : goal.grow_in-requires-clause-apart
grow_in-requires-clause-apart g c =
    let path = g.K.PathKey.path_of in
    let p = c.self.inside.piece in
    let same : part path g.C.OfView.map c.args.self.now ≡ part path p.map p.interval = λ i. part path (sym c.self.invariant i) (sym c.self.view_is i) in
    subst (CanJoinMap g.K.Ord.cmp (g.B.BulkIn.answers c.args.bulk.now) c.args.begun) same c.requires.apart
