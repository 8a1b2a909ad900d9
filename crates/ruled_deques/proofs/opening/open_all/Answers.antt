use Rattle.std.proofs.Common.{◌≡◌, ◌∷◌, [], ◌++◌, ◌<◌, length, ap, ◌∙◌, arith, length-append, rules}
use Rattle.crossbeam_deque.specs.Handles.{worker_view}
use Rattle.ruled_deques.specs.Counts.{IsFresh}
use Rattle.ruled_deques.specs.EndsView.{given}
use Rattle.ruled_deques.proofs.Sharings.{given_later}
use Rattle.ruled_deques.proofs.Steps.{push_at}
use Rattle.ruled_deques.proofs.opening.open_all.Goals as goal

pub loop-preserved : goal.loop-preserved
loop-preserved g c =
    let xs = c.loop.owners.items in
    let y = c.in_ok-owner.owner in
    let inv = c.loop.invariant in
    let e : c.push-in-loop.new.self.items ≡ xs ++ y ∷ [] = c.in_ok-push-2.ensures.items in
    let later : 0 < length xs = search rules in (
      omega (arith, ap length e, length-append xs (y ∷ []), inv.0),
      push_at (λ i w. IsFresh w × ((worker_view w).pushed ≡ given c.args.first i)) xs _ y e (c.in_ok-owner.ensures.fresh.0, c.in_ok-owner.ensures.fresh.1 ∙ given_later c.args.first (length xs) later) inv.1,
    )
