use Rattle.std.proofs.Common.{◌≡◌, ◌+◌, [], ◌∷◌, ◌++◌, sym, ap, subst, ◌∙◌}
use Rattle.iter.specs.declared.interval.Interval.{Interval}
use Rattle.iter.specs.Intervals.{AreApart, cover}
use Rattle.partial_results.specs.Worked.{IsPartial, once}
use Rattle.partial_results.proofs.Partials.{has_worked, may_work}
use Rattle.partial_results.proofs.partial.Partial.work.Goals as goal

pub work_into-made-requires-clause-apart : goal.work_into-made-requires-clause-apart
work_into-made-requires-clause-apart g c =
    let R = g.K.Ord.cmp in
    let path = g.K.PathKey.path_of in
    let answers = g.B.BulkIn.answers in
    let ready = g.B.BulkIn.ready in
    let m = g.C.OfView.map in
    let grain = g.C.OfView.grain in
    let named = g.C.OfBulk.bulk in
    let laws = c.parts_follow_intervals.ensures in
    let ws = c.self.inside.worked.items in
    let apart : AreApart (ws ++ c.args.task ∷ []) = subst (λ xs. AreApart (xs ++ c.args.task ∷ [])) (sym c.self.view_is) c.requires.apart in
    ∣ may_work R path answers ready m grain named laws.one laws.map laws.apart laws.union c.self.inside.bulk.now c.self.inside.part ws c.self.inside.runs.items c.args.task c.self.invariant apart ∣₁

pub invariant_of-result : goal.invariant_of-result
invariant_of-result g c =
    let R = g.K.Ord.cmp in
    let path = g.K.PathKey.path_of in
    let answers = g.B.BulkIn.answers in
    let ready = g.B.BulkIn.ready in
    let m = g.C.OfView.map in
    let grain = g.C.OfView.grain in
    let named = g.C.OfBulk.bulk in
    let laws = c.parts_follow_intervals.ensures in
    let ws = c.self.inside.worked.items in
    let rs = c.self.inside.runs.items in
    let qs = c.add_run.new.runs.items in
    let apart : AreApart (ws ++ c.args.task ∷ []) = subst (λ xs. AreApart (xs ++ c.args.task ∷ [])) (sym c.self.view_is) c.requires.apart in
    let interval : Interval = record { lo = c.lo.result; hi = c.hi.result } in
    let is : interval ≡ c.args.task = λ k. record { lo = c.lo.ensures.lo k; hi = c.hi.ensures.hi k } in
    let list : c.push.new.self.items ≡ ws ++ c.args.task ∷ [] = c.in-Ok-push.ensures.items ∙ (λ k. ws ++ is k ∷ []) in
    subst (λ xs. IsPartial R path answers ready m grain named c.self.inside.bulk.now c.in-Ok.part xs qs) (sym list)
    (has_worked R path answers ready m grain named laws.one laws.map laws.apart laws.union c.self.inside.bulk.now c.self.inside.part c.in-Ok.part ws rs qs c.args.task c.self.invariant apart c.requires.uncut c.in-Ok.ensures
    (λ x. c.in-Ok-add_run.ensures.cover x ∙ ap (λ j. cover rs x + once j x) is))
