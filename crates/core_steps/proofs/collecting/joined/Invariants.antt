use Rattle.versions.specs.Map.{Map}
use Rattle.worker_states.specs.WorkerValues.{IsJobOn}
use Rattle.core_steps.proofs.Collections.{Joined}
use Rattle.core_steps.proofs.collecting.joined.Given as goal

-- the part answers what the first workers have worked
abbrev pub invariant-loop-worker_state : goal.invariant-loop-worker_state
invariant-loop-worker_state g l =
    (m : Map g.row.K.Denot g.row.V.Denot) → IsJobOn g.K.Ord.cmp g.K.PathKey.path_of (g.B.Bulk.answers l.bulk) m l.worker_states
    → Joined g.K.PathKey.path_of (g.B.Bulk.answers l.bulk) m l.worker_states l.worker_state-index l.all
