use Rattle.std.proofs.Common.{◌≡◌, sym, subst}
use Rattle.iter.specs.Intervals.{part}
use Rattle.combiner.specs.Bulks.{CanJoinMap}
use Rattle.versions.specs.Map.{union}
use Rattle.bulk_work.proofs.Works.{left_within}
use Rattle.bulk_work.proofs.walking.grow_in.Goals as goal

-- what is settled for the part's pairs is so for all
pub returns-then-settled : goal.returns-then-settled
returns-then-settled g c = λ m is apart.
    let R = g.K.Ord.cmp in
    let here = part g.K.PathKey.path_of c.args.piece.now.map c.args.piece.now.interval in
    c.settled.ensures.lasting c.if-settled.true m (union R m here) is (left_within R g.met.K.Ord.total m here apart)

-- the part that came back is the one that was given
pub add_pairs-requires-in-Err-clause-apart : goal.add_pairs-requires-in-Err-clause-apart
add_pairs-requires-in-Err-clause-apart g c =
    let here = part g.K.PathKey.path_of c.args.piece.now.map c.args.piece.now.interval in
    let back : c.in-Err.begun ≡ c.args.begun = rw c.in-Err.is at c.in_ok-made.ensures in
    subst (λ begun. CanJoinMap g.K.Ord.cmp (g.B.BulkIn.answers c.args.bulk.now) begun here) (sym back) c.requires.apart
