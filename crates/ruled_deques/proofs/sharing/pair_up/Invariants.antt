use Rattle.std.proofs.Common.{◌≡◌, ℕ, ◌+◌, ◌-◌, ◌<◌, [], length, slice_index_or}
use Rattle.std.specs.Vec.Iter.{into_iter_items}
use Rattle.crossbeam_deque.specs.Handles.{worker_view}
use Rattle.ruled_deques.specs.Rule.{deque_view}
use Rattle.ruled_deques.specs.EndsView.{given}
use Rattle.ruled_deques.proofs.sharing.pair_up.Given as goal

abbrev pub invariant-loop-own : goal.invariant-loop-own
invariant-loop-own g l =
    (length l.all.items + length (into_iter_items l.own-iterator) ≡ length l.fn.owns.items)
    × (length l.bundles.items ≡ length (into_iter_items l.own-iterator))
    × ((i : ℕ) (d : _) → i < length (into_iter_items l.own-iterator) → ((slice_index_or (into_iter_items l.own-iterator) i d).place ≡ length l.all.items + i) × (worker_view (slice_index_or (into_iter_items l.own-iterator) i d).owner ≡ deque_view (17 - g.D.Deques.count) (given l.first.value (slice_index_or (into_iter_items l.own-iterator) i d).place) []))
    × ((i : ℕ) (d : _) → i < length l.all.items → slice_index_or l.all.items i d ≡ record { place = i; pushed = given l.first.value i; taken = [] })
