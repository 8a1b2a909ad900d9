use Rattle.std.proofs.Common.{◌≡◌, ℕ, ◌+◌, ◌<◌, length, slice_index_or}
use Rattle.std.specs.List.{sum_by}
use Rattle.std.specs.Vec.Iter.{into_iter_items}
use Rattle.ruled_deques.specs.Counts.{token_taken, owner_taken, owner_pushed, owner_shares}
use Rattle.ruled_deques.proofs.closing.absorb_all.Given as goal

abbrev pub invariant-loop-theft : goal.invariant-loop-theft
invariant-loop-theft g l =
    (length l.owns.items ≡ length l.initial.owns.items)
    × ((i : ℕ) (d : _) → i < length l.owns.items → (slice_index_or l.owns.items i d).place ≡ i)
    × (sum_by (λ o. owner_shares o.owner) l.owns.items ≡ sum_by (λ o. owner_shares o.owner) l.initial.owns.items + length l.yielded)
    × ((h : _) → sum_by (λ o. owner_taken h o.owner) l.owns.items + sum_by (λ t. token_taken h t.token) (into_iter_items l.theft-iterator) ≡ sum_by (λ o. owner_taken h o.owner) l.initial.owns.items + sum_by (λ t. token_taken h t.token) l.fn.thefts.items)
    × ((h : _) → sum_by (λ o. owner_pushed h o.owner) l.owns.items ≡ sum_by (λ o. owner_pushed h o.owner) l.initial.owns.items)
