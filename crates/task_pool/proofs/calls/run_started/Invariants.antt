use Rattle.std.proofs.Common.{length, slice_get}
use Rattle.ruled_deques.specs.Counts.{deque_of}
use Rattle.task_pool.proofs.calls.run_started.Given as goal

-- the deques of this call
abbrev pub ghosts-run_parallel : goal.ghosts-run_parallel
ghosts-run_parallel g a = record { deque = λ i. deque_of (slice_get a.owners.items i); count = length a.owners.items }
