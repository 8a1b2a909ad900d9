use Rattle.std.proofs.Common.{◌≡◌, ℕ, ◌+◌}
use Rattle.iter.specs.Intervals.{cover, whole}
use Rattle.ruled_deques.specs.EndsView.{given}
use Rattle.task_pool.specs.Asked.{KeepsAsked}
use Rattle.task_pool.proofs.worker.IdleWorker.run.Given as goal

-- what was given and taken so far is what was worked, pushed or left over
abbrev pub invariant-loop : goal.invariant-loop
invariant-loop g l =
    (l.state.ends.place ≡ l.initial.state.ends.place)
    × ((p : ℕ) → cover (given whole l.state.ends.place) p + cover l.state.ends.taken p ≡ cover l.state.partial p + cover l.state.ends.pushed p + cover l.state.leftover.items p)
    × KeepsAsked (g.G.Gate.asked l.shared.gate.now) l.initial.state.ends.place l.initial.state.partial l.state.partial
