use Rattle.std.proofs.Common.{◌≡◌, sym, subst}
use Rattle.iter.specs.Intervals.{parts}
use Rattle.partial_results.proofs.Partials.{same_named, within}
use Rattle.partial_results.proofs.partial.Partial.settled_part.Goals as goal

pub returns-then-settled-clause-ok : goal.returns-then-settled-clause-ok
returns-then-settled-clause-ok g c = λ b name.
    let path = g.K.PathKey.path_of in
    let m = g.C.OfView.map in
    let mine = c.self.inside.bulk.now in
    let same : b ≡ mine = same_named mine b c.self.invariant.is_named name in
    let some = parts path m c.self.inside.worked.items in
    let all = c.settled.ensures.lasting c.if-settled.true some m c.self.invariant.answered (within path m c.self.inside.worked.items) in
    let whole_too = (c.settled.ensures.exact m all).0 c.if-settled.true in
    let yes = (c.settled.ensures.exact some c.self.invariant.answered).0 c.if-settled.true in (
      subst (λ x. g.B.BulkIn.answers x m c.self.inside.part) (sym same) all,
      subst (λ x. g.B.BulkIn.decides x (parts path m c.args.self)) (sym same) (subst (λ xs. g.B.BulkIn.decides mine (parts path m xs)) c.self.view_is yes),
      subst (λ x. g.B.BulkIn.decides x m) (sym same) whole_too,
    )
