use Rattle.std.proofs.Common.{rules, arith, ◌≡◌, ◌+◌, Some, [], ◌∷◌, ◌++◌, length, refl, sym, ap, ◌∙◌, length-append}
use Rattle.std.specs.Vec.Iter.{into_iter_items}
use Rattle.crossbeam_deque.specs.Handles.{worker_view, worker_deque}
use Rattle.ruled_deques.specs.Rule.{deque_view}
use Rattle.ruled_deques.specs.Counts.{IsFresh}
use Rattle.ruled_deques.specs.EndsView.{given}
use Rattle.ruled_deques.proofs.Rules.{deque_view_is}
use Rattle.ruled_deques.proofs.Steps.{rest_at, push_at}
use Rattle.ruled_deques.proofs.sharing.own_all.Goals as goal

pub own_of-own-requires-clause-tied : goal.own_of-own-requires-clause-tied
own_of-own-requires-clause-tied g c =
    let it : into_iter_items c.loop-owner.owner-iterator ≡ c.in-Some.owner ∷ into_iter_items c.next.new.self = search rules in
    let r = rest_at (λ n w. IsFresh w × (Some (worker_deque w) ≡ g.D.Deques.deque n) × ((worker_view w).pushed ≡ given c.args.first.now.value n)) _ _ _ (length c.loop-owner.owns.items) _ it refl c.loop-owner.invariant.1 in
    let at : c.len.result ≡ length c.loop-owner.owns.items = search rules in
    let l = ap length it in
    let all = c.loop-owner.invariant.0 in
    let n = c.requires.count in
    (rw at (r.0.1), omega (arith, at))

pub loop-owner-preserved : goal.loop-owner-preserved
loop-owner-preserved g c =
    let it : into_iter_items c.loop-owner.owner-iterator ≡ c.in-Some.owner ∷ into_iter_items c.next.new.self = search rules in
    let ow : c.push.new.self.items ≡ c.loop-owner.owns.items ++ c.own_of-own.result ∷ [] = search rules in
    let ll : length c.push.new.self.items ≡ length c.loop-owner.owns.items + 1 = ap length ow ∙ length-append _ _ in
    let r = rest_at (λ n w. IsFresh w × (Some (worker_deque w) ≡ g.D.Deques.deque n) × ((worker_view w).pushed ≡ given c.args.first.now.value n)) _ _ _ (length c.loop-owner.owns.items) _ it ll c.loop-owner.invariant.1 in
    let at : c.len.result ≡ length c.loop-owner.owns.items = search rules in
    let place : c.own_of-own.result.place ≡ length c.loop-owner.owns.items = c.own_of-own.ensures.0 ∙ at in
    let fed = r.0.2 ∙ ap (given c.args.first.now.value) (sym place) in
    let mine : worker_view c.own_of-own.result.owner ≡ deque_view 17 (given c.args.first.now.value c.own_of-own.result.place) [] = ap worker_view c.own_of-own.ensures.1 ∙ deque_view_is (worker_view c.in-Some.owner) 17 (given c.args.first.now.value c.own_of-own.result.place) [] r.0.0.2 fed r.0.0.3 in (
      (let l = ap length it in let h = c.loop-owner.invariant.0 in omega arith),
      r.1,
      push_at (λ i o. (o.place ≡ i) × (worker_view o.owner ≡ deque_view 17 (given c.args.first.now.value o.place) [])) _ _ _ ow (place, mine) c.loop-owner.invariant.2,
    )
