use Rattle.std.proofs.Common.{◌≡◌, ℕ, ◌+◌}
use Rattle.std.specs.Prelude.{All}
use Rattle.std.specs.Vec.Iter.{into_iter_items}
use Rattle.iter.specs.Intervals.{cover}
use Rattle.task_pool.proofs.sequential.work_leftovers.Given as goal

abbrev pub invariant-loop-task : goal.invariant-loop-task
invariant-loop-task g l =
    ((p : ℕ) → cover l.all p + cover (into_iter_items l.task-iterator) p ≡ cover l.fn.partial p + cover l.fn.leftover.items p)
    × (All (g.G.Gate.asked l.shared.gate.now l.number) l.fn.partial → All (g.G.Gate.asked l.shared.gate.now l.number) l.all)
