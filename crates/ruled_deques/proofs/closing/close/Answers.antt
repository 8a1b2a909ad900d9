use Rattle.std.proofs.Common.{ap, arith, ◌≡◌, ◌*◌, length}
use Rattle.std.specs.List.{sum_by}
use Rattle.ruled_deques.specs.Counts.{owner_taken, owner_pushed, owner_shares}
use Rattle.ruled_deques.proofs.Steps.{settled_sum}
use Rattle.ruled_deques.proofs.closing.close.Goals as goal

pub returns : goal.returns
returns g c = λ h.
    let d = c.in_ok-drain_all.ensures in
    let a = c.absorb_all-owns.ensures in
    let p = c.in_ok-owns.ensures in
    let shares : sum_by (λ o. owner_shares o.owner) c.drain_all.new.owns.items ≡ 17 * length c.drain_all.new.owns.items = omega (arith, d.shares, a.shares, p.shares, d.len, a.len) in
    let even : sum_by (λ o. owner_pushed h o.owner) c.drain_all.new.owns.items ≡ sum_by (λ o. owner_taken h o.owner) c.drain_all.new.owns.items =
    settled_sum (λ o. owner_shares o.owner) (λ o. owner_pushed h o.owner) (λ o. owner_taken h o.owner) 17 c.drain_all.new.owns.items (λ i e lt. let w = d.settled i e lt in (w.0, λ full. w.1 full h)) shares in
    omega (arith, even, ap (sum_by h) c.new-rest.ensures.items, d.taken h, d.pushed h, a.taken h, a.pushed h, p.taken h, p.pushed h)
