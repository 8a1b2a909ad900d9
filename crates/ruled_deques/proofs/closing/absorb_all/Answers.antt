use Rattle.std.proofs.Common.{rules, ◌≡◌, ◌<◌, ◌+◌, ◌∷◌, [], length, ap, ◌∙◌, arith, length-append}
use Rattle.std.proofs.Math.ListN.{length-set}
use Rattle.std.proofs.lemmas.List.Sums.{sum_by-append, sum_by-cons}
use Rattle.std.specs.List.{sum_by}
use Rattle.std.specs.Vec.Iter.{into_iter_items}
use Rattle.crossbeam_deque.specs.Handles.{worker_view}
use Rattle.ruled_deques.specs.Counts.{taken_through, token_taken, owner_taken, owner_pushed, owner_shares}
use Rattle.ruled_deques.proofs.Steps.{set_places, set_sum, sum_short}
use Rattle.ruled_deques.proofs.closing.absorb_all.Goals as goal

pub loop-theft-preserved : goal.loop-theft-preserved
loop-theft-preserved g c =
    let xs = c.loop-theft.owns.items in
    let theft = c.in-Some.theft in
    let k = theft.place in
    let x = c.index_mut.result.now in
    let y = c.absorb.new.self in
    let inv = c.loop-theft.invariant in
    let did = c.absorb.ensures.did in
    let same = c.absorb.ensures.same in
    let e = c.index_mut.ensures.value in
    let it : into_iter_items c.loop-theft.theft-iterator ≡ theft ∷ into_iter_items c.next.new.self = search rules in
    let lt : k < length xs = omega (arith, inv.0, c.requires.count, theft.within) in (
      (let l = length-set xs k y in l ∙ inv.0),
      set_places (λ o. o.place) xs k y x lt e same inv.1,
      omega (arith, set_sum (λ o. owner_shares o.owner) xs k y x 1 lt e (ap (λ v. v.shares) did), inv.2, length-append c.loop-theft.yielded (theft ∷ [])),
      (λ h. omega (arith, set_sum (λ o. owner_taken h o.owner) xs k y x (token_taken h theft.token) lt e (ap (λ v. sum_by h v.taken) did ∙ sum_by-append h (worker_view x.owner).taken (taken_through theft.token)), inv.3 h, ap (sum_by (λ t. token_taken h t.token)) it, sum_by-cons (λ t. token_taken h t.token) theft (into_iter_items c.next.new.self))),
      (λ h. let z : owner_pushed h y.owner ≡ owner_pushed h x.owner + 0 = omega (arith, ap (λ v. sum_by h v.pushed) did) in omega (arith, set_sum (λ o. owner_pushed h o.owner) xs k y x 0 lt e z, inv.4 h)),
    )

pub returns-clause-taken : goal.returns-clause-taken
returns-clause-taken g c = λ h.
    let none : length (into_iter_items c.loop-theft.theft-iterator) ≡ 0 = search rules in
    omega (arith, c.loop-theft.invariant.3 h, sum_short (λ t. token_taken h t.token) (into_iter_items c.loop-theft.theft-iterator) none)
