use Rattle.iter.specs.Intervals.{part}
use Rattle.tests_bulk_ops.proofs.tests.pieces.joined.Goals as goal

-- the parts are of two pieces that are apart
pub join-requires : goal.join-requires
join-requires g c =
    let path = g.K.PathKey.path_of in
    let l = c.two_of-lower.result.0 in
    let u = c.two_of-lower.result.1 in
    ∣ record {
      first = part path l.map l.interval;
      second = part path u.map u.interval;
      first_is = c.part_of-below.ensures;
      second_is = c.part_of-above.ensures;
      apart = c.two_of-lower.ensures;
    } ∣₁
