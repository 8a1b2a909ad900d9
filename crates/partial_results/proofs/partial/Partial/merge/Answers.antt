use Rattle.std.proofs.Common.{◌≡◌, ◌++◌, sym, subst}
use Rattle.iter.specs.Intervals.{AreApart}
use Rattle.partial_results.specs.Worked.{IsPartial}
use Rattle.partial_results.proofs.Partials.{has_taken, may_take}
use Rattle.partial_results.proofs.partial.Partial.merge.Goals as goal

pub join-requires : goal.join-requires
join-requires g c =
    let R = g.K.Ord.cmp in
    let path = g.K.PathKey.path_of in
    let answers = g.B.BulkIn.answers in
    let ready = g.B.BulkIn.ready in
    let m = g.C.OfView.map in
    let grain = g.C.OfView.grain in
    let named = g.C.OfBulk.bulk in
    let laws = c.parts_follow_intervals.ensures in
    let ws = c.self.inside.worked.items in
    let vs = c.other.inside.worked.items in
    let both : c.args.self ++ c.args.other ≡ ws ++ vs = λ k. sym c.self.view_is k ++ sym c.other.view_is k in
    ∣ may_take R path answers ready m grain named laws.one laws.map laws.apart laws.union c.self.inside.bulk.now c.other.inside.bulk.now c.self.inside.part c.other.inside.part ws c.self.inside.runs.items vs c.other.inside.runs.items c.self.invariant c.other.invariant (subst AreApart both c.requires) ∣₁

pub invariant_of-result : goal.invariant_of-result
invariant_of-result g c =
    let R = g.K.Ord.cmp in
    let path = g.K.PathKey.path_of in
    let answers = g.B.BulkIn.answers in
    let ready = g.B.BulkIn.ready in
    let m = g.C.OfView.map in
    let grain = g.C.OfView.grain in
    let named = g.C.OfBulk.bulk in
    let laws = c.parts_follow_intervals.ensures in
    let ws = c.self.inside.worked.items in
    let vs = c.other.inside.worked.items in
    let rs = c.self.inside.runs.items in
    let qs = c.other.inside.runs.items in
    let both : c.args.self ++ c.args.other ≡ ws ++ vs = λ k. sym c.self.view_is k ++ sym c.other.view_is k in
    let b = c.self.inside.bulk.now in
    let p = c.in_ok-part.part in
    subst (λ xs. IsPartial R path answers ready m grain named b p xs c.append-2.new.self.items) (sym c.in_ok-append.ensures.items)
    (subst (λ xs. IsPartial R path answers ready m grain named b p (ws ++ vs) xs) (sym c.in_ok-append-2.ensures.items)
    (has_taken R path answers ready m grain named laws.one laws.map laws.apart laws.union b c.other.inside.bulk.now c.self.inside.part c.other.inside.part p ws rs vs qs c.self.invariant c.other.invariant (subst AreApart both c.requires) c.in_ok-part.ensures))
