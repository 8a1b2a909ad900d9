use Rattle.std.proofs.Common.{◌≡◌, length}
use Rattle.std.specs.List.{sum_by}
use Rattle.ruled_deques.specs.Counts.{token_taken}
use Rattle.ruled_deques.proofs.worker_ends.steal_any.Given as goal

abbrev pub invariant-loop-k : goal.invariant-loop-k
invariant-loop-k g l =
    (length l.thefts.items ≡ length l.initial.thefts.items)
    × ((h : _) → sum_by (λ t. token_taken h t.token) l.thefts.items ≡ sum_by (λ t. token_taken h t.token) l.initial.thefts.items)
