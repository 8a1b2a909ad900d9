use Rattle.std.proofs.Common.{◌≡◌, ℕ, ◌+◌, ◌<◌, [], Some, length, slice_index_or}
use Rattle.std.specs.Vec.Iter.{into_iter_items}
use Rattle.crossbeam_deque.specs.Handles.{worker_view, worker_deque}
use Rattle.ruled_deques.specs.Rule.{deque_view}
use Rattle.ruled_deques.specs.Counts.{IsFresh}
use Rattle.ruled_deques.specs.EndsView.{given}
use Rattle.ruled_deques.proofs.sharing.own_all.Given as goal

abbrev pub invariant-loop-owner : goal.invariant-loop-owner
invariant-loop-owner g l =
    (length l.owns.items + length (into_iter_items l.owner-iterator) ≡ length l.fn.owners.items)
    × ((i : ℕ) (d : _) → i < length (into_iter_items l.owner-iterator) → IsFresh (slice_index_or (into_iter_items l.owner-iterator) i d) × (Some (worker_deque (slice_index_or (into_iter_items l.owner-iterator) i d)) ≡ g.D.Deques.deque (length l.owns.items + i)) × ((worker_view (slice_index_or (into_iter_items l.owner-iterator) i d)).pushed ≡ given l.first.value (length l.owns.items + i)))
    × ((i : ℕ) (d : _) → i < length l.owns.items → ((slice_index_or l.owns.items i d).place ≡ i) × (worker_view (slice_index_or l.owns.items i d).owner ≡ deque_view 17 (given l.first.value (slice_index_or l.owns.items i d).place) []))
