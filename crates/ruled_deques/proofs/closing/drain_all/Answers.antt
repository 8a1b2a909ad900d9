use Rattle.std.proofs.Common.{rules, ◌<◌, length, ap, ◌∙◌, arith}
use Rattle.std.proofs.Math.ListN.{length-set}
use Rattle.std.proofs.lemmas.List.Sums.{sum_by-set}
use Rattle.crossbeam_deque.specs.Handles.{worker_view}
use Rattle.ruled_deques.specs.Rule.{Settled}
use Rattle.ruled_deques.specs.Counts.{owner_shares, owner_pushed, owner_taken}
use Rattle.ruled_deques.proofs.Steps.{below_set}
use Rattle.ruled_deques.proofs.closing.drain_all.Goals as goal

pub loop-k-preserved : goal.loop-k-preserved
loop-k-preserved g c =
    let xs = c.loop-k.owns.items in
    let k = c.loop-k.k in
    let x = c.index_mut.result.now in
    let y = c.drain.new.own in
    let inv = c.loop-k.invariant in
    let d = c.in_ok-drain.ensures in
    let e = c.index_mut.ensures.value in
    let lt : k < length xs = search rules in (
      length-set xs k y ∙ inv.0,
      below_set (λ o. Settled (worker_view o.owner)) xs k y lt d.0 inv.1,
      omega (arith, sum_by-set (λ o. owner_shares o.owner) xs k y x lt, ap (λ o. owner_shares o.owner) e, d.1, inv.2),
      (λ h. omega (arith, sum_by-set (λ o. owner_taken h o.owner) xs k y x lt, ap (λ o. owner_taken h o.owner) e, d.2 h, inv.3 h)),
      (λ h. omega (arith, sum_by-set (λ o. owner_pushed h o.owner) xs k y x lt, ap (λ o. owner_pushed h o.owner) e, d.3 h, inv.4 h)),
    )
