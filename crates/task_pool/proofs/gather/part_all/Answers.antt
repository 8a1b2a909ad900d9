use Rattle.std.proofs.Common.{rules, arith, ◌≡◌, ◌+◌, [], ◌∷◌, ◌++◌, IfOk, length, sym, ap, subst, ◌∙◌, length-append}
use Rattle.std.proofs.lemmas.List.Sums.{sum_by_push, sum_by-append}
use Rattle.std.specs.Vec.Iter.{into_iter_items}
use Rattle.iter.specs.Intervals.{cover, whole}
use Rattle.ruled_deques.specs.EndsView.{given}
use Rattle.ruled_deques.proofs.Steps.{places_push}
use Rattle.std.specs.Prelude.{All}
use Rattle.partial_results.specs.Worked.{once}
use Rattle.task_pool.proofs.Asked.{asked_push, none_asked}
use Rattle.task_pool.proofs.Places.{first_ok, from_start, rest_ok}
use Rattle.task_pool.proofs.gather.part_all.Goals as goal

pub loop-one-init : goal.loop-one-init
loop-one-init g c =
    let items : into_iter_items c.into_iter-one-iterator.result ≡ c.args.done.items = search rules in
    let Asked = g.G.Gate.asked c.args.gate.now in (
      search rules,
      from_start (λ n done. IfOk done (λ w. w.state.ends.place ≡ n)) _ _ _ items (search rules) c.requires.places,
      search rules,
      search rules,
      search rules,
      from_start (λ n done. IfOk done (λ w. All (Asked n) w.state.partial)) _ _ _ items (search rules) c.requires.asked,
      none_asked Asked _ (search rules),
    )

pub loop-one-preserved : goal.loop-one-preserved
loop-one-preserved g c =
    let state = c.in-Ok.state in
    let ends = state.ends in
    let partial = state.partial in
    let rest = state.leftover.items in
    let inv = c.loop-one.invariant in
    let al : c.add.new.self.ends.items ≡ c.loop-one.parted.ends.items ++ ends ∷ [] = search rules in
    let pr : c.add.new.self.gathered.partials.items ≡ c.loop-one.parted.gathered.partials.items ++ partial ∷ [] = search rules in
    let lf : c.add.new.self.gathered.leftover.items ≡ c.loop-one.parted.gathered.leftover.items ++ rest = search rules in
    let it : into_iter_items c.loop-one.one-iterator ≡ c.in-Some.one ∷ into_iter_items c.next.new.self = search rules in
    let ll : length c.add.new.self.ends.items ≡ length c.loop-one.parted.ends.items + 1 = ap length al ∙ length-append _ _ in
    let Asked = g.G.Gate.asked c.args.gate.now in
    let own : All (Asked (length c.loop-one.parted.ends.items)) partial = subst (λ s. All (Asked (length c.loop-one.parted.ends.items)) s.partial) c.in-Ok.state-is (first_ok (λ n w. All (Asked n) w.state.partial) _ _ c.in-Some.one c.in-Ok.field-0 _ it (search rules) inv.5) in
    let mine : ends.place ≡ length c.loop-one.parted.ends.items = ap (λ s. s.ends.place) (sym c.in-Ok.state-is) ∙ first_ok (λ n w. w.state.ends.place ≡ n) _ _ c.in-Some.one c.in-Ok.field-0 _ it (search rules) inv.1 in (
      (let l = ap length it in let h = inv.0 in omega arith),
      rest_ok (λ n w. w.state.ends.place ≡ n) _ _ _ _ _ it ll inv.1,
      places_push (λ e. e.place) _ _ ends al mine inv.2,
      (λ p.
          let b = rw c.in-Ok.state-is at (c.in-Ok.field-0.balance p) in
          let h = inv.3 p in
          rw (al, pr, lf) (omega (
            arith,
            b,
            h,
            sum_by_push (λ e. cover (given whole e.place) p) c.loop-one.parted.ends.items ends,
            sum_by_push (λ e. cover e.taken p) c.loop-one.parted.ends.items ends,
            sum_by_push (λ e. cover e.pushed p) c.loop-one.parted.ends.items ends,
            sum_by_push (λ t. cover t p) c.loop-one.parted.gathered.partials.items partial,
            sum_by-append (λ x. once x p) c.loop-one.parted.gathered.leftover.items rest,
          ))),
      (let tl : length c.add.new.self.gathered.partials.items ≡ length c.loop-one.parted.gathered.partials.items + 1 = ap length pr ∙ length-append _ _ in let h = inv.4 in omega (arith, tl, ll, h)),
      rest_ok (λ n w. All (Asked n) w.state.partial) _ _ _ _ _ it ll inv.5,
      asked_push Asked c.loop-one.parted.gathered.partials.items c.add.new.self.gathered.partials.items partial pr inv.6 (subst (λ n. All (Asked n) partial) (sym inv.4) own),
    )
