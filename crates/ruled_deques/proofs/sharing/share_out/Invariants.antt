use Rattle.std.proofs.Common.{◌≡◌, ℕ, ◌-◌, ◌<◌, [], length, slice_index_or}
use Rattle.crossbeam_deque.specs.Handles.{worker_view}
use Rattle.ruled_deques.specs.Rule.{deque_view}
use Rattle.ruled_deques.specs.EndsView.{given}
use Rattle.ruled_deques.proofs.sharing.share_out.Given as goal

abbrev pub invariant-loop-k : goal.invariant-loop-k
invariant-loop-k g l =
    (length l.owns.items ≡ l.n)
    × (length l.bundles.items ≡ l.k)
    × ((i : ℕ) (d : _) → i < length l.owns.items → ((slice_index_or l.owns.items i d).place ≡ i) × (worker_view (slice_index_or l.owns.items i d).owner ≡ deque_view (17 - l.k) (given l.first.value (slice_index_or l.owns.items i d).place) []))
