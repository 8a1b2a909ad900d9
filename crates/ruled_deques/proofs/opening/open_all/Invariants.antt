use Rattle.std.proofs.Common.{◌≡◌, ℕ, ◌<◌, length, slice_index_or}
use Rattle.crossbeam_deque.specs.Handles.{worker_view}
use Rattle.ruled_deques.specs.Counts.{IsFresh}
use Rattle.ruled_deques.specs.EndsView.{given}
use Rattle.ruled_deques.proofs.opening.open_all.Given as goal

abbrev pub invariant-loop : goal.invariant-loop
invariant-loop g l =
    (length l.owners.items ≡ l.counter)
    × ((i : ℕ) (d : _) → i < length l.owners.items → IsFresh (slice_index_or l.owners.items i d) × ((worker_view (slice_index_or l.owners.items i d)).pushed ≡ given l.fn.first i))
