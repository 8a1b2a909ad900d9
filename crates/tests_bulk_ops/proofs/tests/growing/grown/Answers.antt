use Rattle.iter.specs.Intervals.{part}
use Rattle.tests_bulk_ops.proofs.tests.growing.grown.Goals as goal

-- the part is of a piece that the other is apart from
pub work_into-requires-clause-apart : goal.work_into-requires-clause-apart
work_into-requires-clause-apart g c =
    let l = c.two_of-lower.result.0 in
    ∣ (part g.K.PathKey.path_of l.map l.interval, c.part_of-begun.ensures, c.two_of-lower.ensures) ∣₁
