use Rattle.std.proofs.Common.{◌≡◌, ℕ, ◌+◌, ◌*◌, ◌<◌, length, slice_index_or}
use Rattle.std.specs.List.{sum_by}
use Rattle.std.specs.Vec.Iter.{into_iter_items}
use Rattle.ruled_deques.specs.Counts.{token_taken, owner_taken, owner_pushed, owner_shares}
use Rattle.ruled_deques.proofs.closing.part_all.Given as goal

abbrev pub invariant-loop-ends : goal.invariant-loop-ends
invariant-loop-ends g l =
    (length l.owns.items + length (into_iter_items l.ends-iterator) ≡ length l.fn.all.items)
    × ((i : ℕ) (d : _) → i < length (into_iter_items l.ends-iterator) → (slice_index_or (into_iter_items l.ends-iterator) i d).place ≡ length l.owns.items + i)
    × ((i : ℕ) (d : _) → i < length l.owns.items → (slice_index_or l.owns.items i d).place ≡ i)
    × (sum_by (λ o. owner_shares o.owner) l.owns.items + length l.thefts.items ≡ 17 * length l.owns.items)
    × ((h : _) → sum_by (λ o. owner_pushed h o.owner) l.owns.items + sum_by (λ e. sum_by h e.pushed) (into_iter_items l.ends-iterator) ≡ sum_by (λ e. sum_by h e.pushed) l.fn.all.items)
    × ((h : _) → sum_by (λ o. owner_taken h o.owner) l.owns.items + sum_by (λ t. token_taken h t.token) l.thefts.items + sum_by (λ e. sum_by h e.taken) (into_iter_items l.ends-iterator) ≡ sum_by (λ e. sum_by h e.taken) l.fn.all.items)
