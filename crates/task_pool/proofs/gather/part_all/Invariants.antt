use Rattle.std.proofs.Common.{◌≡◌, ℕ, ◌+◌, ◌<◌, IfOk, length, slice_index_or}
use Rattle.std.specs.Prelude.{All}
use Rattle.std.specs.List.{sum_by}
use Rattle.std.specs.Vec.Iter.{into_iter_items}
use Rattle.iter.specs.Intervals.{cover, whole}
use Rattle.ruled_deques.specs.EndsView.{given}
use Rattle.task_pool.specs.Asked.{EachAsked}
use Rattle.task_pool.proofs.gather.part_all.Given as goal

abbrev pub invariant-loop-one : goal.invariant-loop-one
invariant-loop-one g l =
    (length l.parted.ends.items + length (into_iter_items l.one-iterator) ≡ length l.fn.done.items)
    × ((i : ℕ) (d : _) → i < length (into_iter_items l.one-iterator) → IfOk (slice_index_or (into_iter_items l.one-iterator) i d) (λ w. w.state.ends.place ≡ length l.parted.ends.items + i))
    × ((i : ℕ) (d : _) → i < length l.parted.ends.items → (slice_index_or l.parted.ends.items i d).place ≡ i)
    × ((p : ℕ) → sum_by (λ e. cover (given whole e.place) p) l.parted.ends.items + sum_by (λ e. cover e.taken p) l.parted.ends.items ≡ sum_by (λ t. cover t p) l.parted.gathered.partials.items + sum_by (λ e. cover e.pushed p) l.parted.ends.items + cover l.parted.gathered.leftover.items p)
    × (length l.parted.gathered.partials.items ≡ length l.parted.ends.items)
    × ((i : ℕ) (d : _) → i < length (into_iter_items l.one-iterator) → IfOk (slice_index_or (into_iter_items l.one-iterator) i d) (λ w. All (g.G.Gate.asked l.gate (length l.parted.ends.items + i)) w.state.partial))
    × EachAsked (g.G.Gate.asked l.gate) l.parted.gathered.partials.items
