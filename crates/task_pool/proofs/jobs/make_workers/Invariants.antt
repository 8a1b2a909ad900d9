use Rattle.std.proofs.Common.{◌≡◌, ℕ, ◌+◌, ◌<◌, [], length, slice_index_or}
use Rattle.std.specs.Vec.Iter.{into_iter_items}
use Rattle.iter.specs.Intervals.{whole}
use Rattle.ruled_deques.specs.EndsView.{given}
use Rattle.task_pool.proofs.jobs.make_workers.Given as goal

abbrev pub invariant-loop-ends : goal.invariant-loop-ends
invariant-loop-ends g l =
    (length l.workers.items + length (into_iter_items l.ends-iterator) ≡ length l.fn.all.items)
    × ((i : ℕ) (d : _) → i < length (into_iter_items l.ends-iterator) → slice_index_or (into_iter_items l.ends-iterator) i d ≡ record { place = length l.workers.items + i; pushed = given whole (length l.workers.items + i); taken = [] })
    × ((i : ℕ) (d : _) → i < length l.workers.items → (slice_index_or l.workers.items i d).state.ends.place ≡ i)
    × ((i : ℕ) (d : _) → i < length l.workers.items → (slice_index_or l.workers.items i d).state.partial ≡ [])
