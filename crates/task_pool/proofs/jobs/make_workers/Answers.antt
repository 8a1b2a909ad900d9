use Rattle.std.proofs.Common.{rules, arith, ◌≡◌, ◌+◌, [], ◌∷◌, ◌++◌, length, refl, sym, ap, ◌∙◌, length-append}
use Rattle.std.specs.Vec.Iter.{into_iter_items}
use Rattle.iter.specs.Intervals.{whole}
use Rattle.ruled_deques.specs.EndsView.{given}
use Rattle.ruled_deques.proofs.Steps.{rest_at, push_at}
use Rattle.task_pool.proofs.jobs.make_workers.Goals as goal

pub new_worker-requires-clause-pushed : goal.new_worker-requires-clause-pushed
new_worker-requires-clause-pushed g c =
    let it : into_iter_items c.loop-ends.ends-iterator ≡ c.in-Some.ends ∷ into_iter_items c.next.new.self = search rules in
    let r = rest_at (λ n e. e ≡ record { place = n; pushed = given whole n; taken = [] }) _ _ _ (length c.loop-ends.workers.items) _ it refl c.loop-ends.invariant.1 in
    ap (λ e. e.pushed) r.0 ∙ ap (λ e. given whole e.place) (sym r.0)

pub new_worker-requires-clause-taken : goal.new_worker-requires-clause-taken
new_worker-requires-clause-taken g c =
    let it : into_iter_items c.loop-ends.ends-iterator ≡ c.in-Some.ends ∷ into_iter_items c.next.new.self = search rules in
    let r = rest_at (λ n e. e ≡ record { place = n; pushed = given whole n; taken = [] }) _ _ _ (length c.loop-ends.workers.items) _ it refl c.loop-ends.invariant.1 in
    ap (λ e. e.taken) r.0

pub loop-ends-preserved : goal.loop-ends-preserved
loop-ends-preserved g c =
    let it : into_iter_items c.loop-ends.ends-iterator ≡ c.in-Some.ends ∷ into_iter_items c.next.new.self = search rules in
    let more : c.push.new.self.items ≡ c.loop-ends.workers.items ++ c.in_ok-worker.worker ∷ [] = search rules in
    let ll : length c.push.new.self.items ≡ length c.loop-ends.workers.items + 1 = ap length more ∙ length-append _ _ in
    let r = rest_at (λ n e. e ≡ record { place = n; pushed = given whole n; taken = [] }) _ _ _ (length c.loop-ends.workers.items) _ it ll c.loop-ends.invariant.1 in (
      (let l = ap length it in let h = c.loop-ends.invariant.0 in omega arith),
      r.1,
      push_at (λ i w. w.state.ends.place ≡ i) _ _ _ more (c.in_ok-worker.ensures.place ∙ ap (λ e. e.place) r.0) c.loop-ends.invariant.2,
      push_at (λ i w. w.state.partial ≡ []) _ _ _ more c.in_ok-worker.ensures.fresh c.loop-ends.invariant.3,
    )
