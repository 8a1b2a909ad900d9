use Rattle.std.proofs.Common.{◌≡◌, ℕ, ◌+◌, ◌<◌, length, slice_index_or}
use Rattle.std.specs.List.{sum_by}
use Rattle.crossbeam_deque.specs.Handles.{worker_view}
use Rattle.ruled_deques.specs.Rule.{Settled}
use Rattle.ruled_deques.specs.Counts.{owner_taken, owner_pushed, owner_shares}
use Rattle.ruled_deques.proofs.closing.drain_all.Given as goal

abbrev pub invariant-loop-k : goal.invariant-loop-k
invariant-loop-k g l =
    (length l.owns.items ≡ length l.initial.owns.items)
    × ((i : ℕ) (d : _) → i < l.k → Settled (worker_view (slice_index_or l.owns.items i d).owner))
    × (sum_by (λ o. owner_shares o.owner) l.owns.items ≡ sum_by (λ o. owner_shares o.owner) l.initial.owns.items)
    × ((h : _) → sum_by (λ o. owner_taken h o.owner) l.owns.items + sum_by h l.initial.rest.items ≡ sum_by (λ o. owner_taken h o.owner) l.initial.owns.items + sum_by h l.rest.items)
    × ((h : _) → sum_by (λ o. owner_pushed h o.owner) l.owns.items ≡ sum_by (λ o. owner_pushed h o.owner) l.initial.owns.items)
