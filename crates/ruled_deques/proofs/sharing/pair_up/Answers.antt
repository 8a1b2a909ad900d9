use Rattle.std.proofs.Common.{rules, arith, ◌≡◌, ◌+◌, ◌-◌, [], ◌∷◌, ◌++◌, length, ap, ◌∙◌, length-append}
use Rattle.std.specs.Vec.Iter.{into_iter_items}
use Rattle.crossbeam_deque.specs.Handles.{worker_view}
use Rattle.ruled_deques.specs.Rule.{deque_view}
use Rattle.ruled_deques.specs.EndsView.{given}
use Rattle.ruled_deques.proofs.Steps.{rest_at, push_at}
use Rattle.ruled_deques.proofs.sharing.pair_up.Goals as goal

pub loop-own-preserved : goal.loop-own-preserved
loop-own-preserved g c =
    let it : into_iter_items c.loop-own.own-iterator ≡ c.in-Some.own ∷ into_iter_items c.next.new.self = search rules in
    let more : c.push.new.self.items ≡ c.loop-own.all.items ++ c.ends_of.result ∷ [] = search rules in
    let ll : length c.push.new.self.items ≡ length c.loop-own.all.items + 1 = ap length more ∙ length-append _ _ in
    let r = rest_at (λ n o. (o.place ≡ n) × (worker_view o.owner ≡ deque_view (17 - g.D.Deques.count) (given c.args.first.now.value o.place) [])) _ _ _ (length c.loop-own.all.items) _ it ll c.loop-own.invariant.2 in
    let l = ap length it in
    let h = c.loop-own.invariant.0 in
    let b = c.loop-own.invariant.1 in
    let e : c.loop-own.bundles.items ≡ c.pop.new.self.items ++ c.in-Some-pop.bundle ∷ [] = search rules in
    let k : length c.loop-own.bundles.items ≡ length c.pop.new.self.items + 1 = ap length e ∙ length-append _ _ in (
      omega arith,
      omega arith,
      r.1,
      push_at (λ i e. e ≡ record { place = i; pushed = given c.args.first.now.value i; taken = [] }) _ _ _ more (c.ends_of.ensures ∙ ap (λ n. record { place = n; pushed = given c.args.first.now.value n; taken = [] }) r.0.0) c.loop-own.invariant.3,
    )
