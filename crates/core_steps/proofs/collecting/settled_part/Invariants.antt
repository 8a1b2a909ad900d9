use Rattle.std.proofs.Common.{ℕ, ◌<◌}
use Rattle.versions.specs.Map.{Map}
use Rattle.worker_states.specs.WorkerValues.{IsJobOn}
use Rattle.core_steps.specs.Collected.{HasDecided}
use Rattle.core_steps.proofs.collecting.settled_part.Given as goal

-- none of the first workers has decided
abbrev pub invariant-loop-worker_state : goal.invariant-loop-worker_state
invariant-loop-worker_state g l =
    (m : Map g.row.K.Denot g.row.V.Denot) → IsJobOn g.K.Ord.cmp g.K.PathKey.path_of (g.B.Bulk.answers l.bulk) m l.worker_states
    → (w : ℕ) → w < l.worker_state-index → HasDecided g.K.PathKey.path_of (g.B.Bulk.answers l.bulk) (g.B.Bulk.decides l.bulk) m l.worker_states w → ⊥
