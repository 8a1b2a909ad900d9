use Rattle.partial_results.proofs.Partials.{begun_at}
use Rattle.partial_results.proofs.partial.Partial.new.Goals as goal

pub invariant_of-result : goal.invariant_of-result
invariant_of-result g c =
    let seen = c.len-pairs.ensures in
    begun_at g.K.Ord.cmp g.K.PathKey.path_of g.B.BulkIn.answers g.B.BulkIn.ready c.args.view.now g.C.OfView.map g.C.OfView.grain g.C.OfBulk.bulk c.args.bulk.now c.in_ok-part.part c.new.result.items c.new-2.result.items
    c.requires.view c.requires.bulk c.requires.ready seen.sorted seen.few c.in_ok-part.ensures c.new.ensures.items c.new-2.ensures.items
