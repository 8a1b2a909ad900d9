use Rattle.std.proofs.Common.{◌≡◌, ℕ, ◌-◌, ◌<◌, ◌≤◌, [], length, slice_index_or, flat_map}
use Rattle.crossbeam_deque.specs.Handles.{worker_view}
use Rattle.ruled_deques.specs.Rule.{deque_view}
use Rattle.ruled_deques.specs.Counts.{taken_through}
use Rattle.ruled_deques.specs.EndsView.{given}
use Rattle.ruled_deques.proofs.sharing.share_each.Given as goal

abbrev pub invariant-loop-k : goal.invariant-loop-k
invariant-loop-k g l =
    (length l.owns.items ≡ length l.initial.owns.items)
    × (length l.thefts.items ≡ l.k)
    × (flat_map (λ t. taken_through t.token) l.thefts.items ≡ [])
    × ((i : ℕ) (d : _) → i < l.k → worker_view (slice_index_or l.owns.items i d).owner ≡ deque_view (l.shares - 1) (given l.first.value (slice_index_or l.owns.items i d).place) [])
    × ((i : ℕ) (d : _) → l.k ≤ i → i < length l.owns.items → worker_view (slice_index_or l.owns.items i d).owner ≡ deque_view l.shares (given l.first.value (slice_index_or l.owns.items i d).place) [])
    × ((i : ℕ) (d : _) → i < length l.initial.owns.items → (slice_index_or l.owns.items i d).place ≡ (slice_index_or l.initial.owns.items i d).place)
