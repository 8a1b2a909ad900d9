use Rattle.std.proofs.Common.{[], ◌∷◌, arith}
use Rattle.iter.specs.Intervals.{cover, whole}
use Rattle.task_pool.proofs.Balances.{balanced}
use Rattle.iter.proofs.Tiling.{cover_cons}
use Rattle.task_pool.proofs.calls.run_started.Goals as goal

pub make_report-requires-clause-tile : goal.make_report-requires-clause-tile
make_report-requires-clause-tile g c =
    balanced c.in_ok-gathered.gathered.partials.items c.in_ok-gathered.gathered.leftover.items (λ p. cover (whole ∷ []) p) (λ p. omega (arith, cover_cons whole [] p)) c.in_ok-gathered.ensures.balance
