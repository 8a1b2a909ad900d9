use Rattle.std.proofs.Common.{rules, ◌≡◌, ◌<◌, ◌-◌, [], ◌∷◌, ◌++◌, length, ap, sym, subst, ◌∙◌, arith, length-append}
use Rattle.std.proofs.Math.ListN.{length-set}
use Rattle.std.specs.List.{flat_map}
use Rattle.crossbeam_deque.specs.Handles.{worker_view}
use Rattle.ruled_deques.specs.Rule.{deque_view}
use Rattle.ruled_deques.specs.Counts.{taken_through}
use Rattle.ruled_deques.specs.EndsView.{given}
use Rattle.ruled_deques.proofs.Sharings.{flat_map_none}
use Rattle.ruled_deques.proofs.Steps.{above_set, below_set, same_set}
use Rattle.ruled_deques.proofs.sharing.share_each.Goals as goal

pub loop-k-preserved : goal.loop-k-preserved
loop-k-preserved g c =
    let xs = c.loop-k.owns.items in
    let k = c.loop-k.k in
    let x = c.index_mut.result.now in
    let y = c.share.new.self in
    let inv = c.loop-k.invariant in
    let fed = given c.args.first.now.value in
    let shares = c.args.shares in
    let did = c.in_ok-theft.ensures.did in
    let same = c.share.ensures.same in
    let e = c.index_mut.ensures.value in
    let more : c.push.new.self.items ≡ c.loop-k.thefts.items ++ c.in_ok-theft.theft ∷ [] = c.in_ok-push.ensures.items in
    let lt : k < length xs = search rules in
    let was : worker_view x.owner ≡ deque_view shares (fed x.place) [] = subst (λ o. worker_view o.owner ≡ deque_view shares (fed o.place) []) (sym e) (inv.4 k x (omega arith) lt) in
    let here : worker_view y.owner ≡ deque_view (shares - 1) (fed y.place) [] = did.2 ∙ (λ i. deque_view ((was i).shares - 1) (was i).pushed (was i).taken) ∙ ap (λ n. deque_view (shares - 1) (fed n) []) (sym same) in (
      length-set xs k y ∙ inv.0,
      omega (arith, ap length more, length-append c.loop-k.thefts.items (c.in_ok-theft.theft ∷ []), inv.1),
      ap (flat_map (λ t. taken_through t.token)) more ∙ flat_map_none (λ t. taken_through t.token) c.loop-k.thefts.items c.in_ok-theft.theft inv.2 (ap (λ v. v.taken) did.1),
      below_set (λ o. worker_view o.owner ≡ deque_view (shares - 1) (fed o.place) []) xs k y lt here inv.3,
      above_set (λ o. worker_view o.owner ≡ deque_view shares (fed o.place) []) xs k y lt inv.4,
      same_set (λ o. o.place) xs c.args.owns.now.items k y x lt inv.0 e same inv.5,
    )
