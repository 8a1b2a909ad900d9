use Rattle.std.proofs.Common.{rules, arith, ◌≡◌, ◌+◌, [], ◌∷◌, ◌++◌, length, ap, ◌∙◌, length-append}
use Rattle.std.specs.List.{sum_by}
use Rattle.std.specs.Vec.Iter.{into_iter_items}
use Rattle.std.proofs.lemmas.List.Sums.{sum_by_push, sum_by-append, sum_by-cons}
use Rattle.crossbeam_deque.specs.Handles.{worker_view}
use Rattle.ruled_deques.specs.Counts.{taken_through, token_taken, owner_taken, owner_pushed, owner_shares}
use Rattle.ruled_deques.proofs.Sharings.{taken_weighs}
use Rattle.ruled_deques.proofs.Steps.{places_push, rest_at, sum_short}
use Rattle.ruled_deques.proofs.closing.part_all.Goals as goal

pub loop-ends-preserved : goal.loop-ends-preserved
loop-ends-preserved g c =
    let own = c.into_parts-own.result.0 in
    let thefts = c.into_parts-own.result.1.items in
    let parts = c.into_parts-own.ensures in
    let ends = c.in-Some.ends in
    let inv = c.loop-ends.invariant in
    let it : into_iter_items c.loop-ends.ends-iterator ≡ ends ∷ into_iter_items c.next.new.self = search rules in
    let ow : c.push.new.self.items ≡ c.loop-ends.owns.items ++ own ∷ [] = search rules in
    let th : c.append.new.self.items ≡ c.loop-ends.thefts.items ++ thefts = search rules in
    let ll : length c.push.new.self.items ≡ length c.loop-ends.owns.items + 1 = ap length ow ∙ length-append _ _ in
    let r = rest_at (λ n e. e.place ≡ n) _ _ _ (length c.loop-ends.owns.items) _ it ll inv.1 in (
      (let l = ap length it in let h = inv.0 in omega arith),
      r.1,
      places_push (λ o. o.place) _ _ own ow (parts.place ∙ r.0) inv.2,
      (let w = parts.shares in let h = inv.3 in
          rw (ow, th) (omega (arith, sum_by_push (λ o. owner_shares o.owner) c.loop-ends.owns.items own, length-append c.loop-ends.thefts.items thefts, length-append c.loop-ends.owns.items (own ∷ [])))),
      (λ h.
          let s = ap (sum_by (λ e. sum_by h e.pushed)) it in
          let k = inv.4 h in
          rw ow (omega (arith, s, k, ap (sum_by h) parts.pushed, sum_by_push (λ o. owner_pushed h o.owner) c.loop-ends.owns.items own, sum_by-cons (λ e. sum_by h e.pushed) ends (into_iter_items c.next.new.self)))),
      λ h.
          let s = ap (sum_by (λ e. sum_by h e.taken)) it in
          let k = inv.5 h in
          rw (ow, th) (omega (
            arith,
            s,
            k,
            ap (sum_by h) parts.taken,
            taken_weighs h (worker_view own.owner).taken (λ t. taken_through t.token) thefts,
            sum_by_push (λ o. owner_taken h o.owner) c.loop-ends.owns.items own,
            sum_by-append (λ t. token_taken h t.token) c.loop-ends.thefts.items thefts,
            sum_by-cons (λ e. sum_by h e.taken) ends (into_iter_items c.next.new.self),
          )),
    )

pub returns-clause-pushed : goal.returns-clause-pushed
returns-clause-pushed g c = λ h.
    let none : length (into_iter_items c.loop-ends.ends-iterator) ≡ 0 = search rules in
    omega (arith, c.loop-ends.invariant.4 h, sum_short (λ e. sum_by h e.pushed) (into_iter_items c.loop-ends.ends-iterator) none)

pub returns-clause-taken : goal.returns-clause-taken
returns-clause-taken g c = λ h.
    let none : length (into_iter_items c.loop-ends.ends-iterator) ≡ 0 = search rules in
    omega (arith, c.loop-ends.invariant.5 h, sum_short (λ e. sum_by h e.taken) (into_iter_items c.loop-ends.ends-iterator) none)
