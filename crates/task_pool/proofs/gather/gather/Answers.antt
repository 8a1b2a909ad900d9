use Rattle.std.proofs.Common.{arith, ◌≡◌, ◌+◌, ◌<◌, length, ap, ◌∙◌}
use Rattle.std.specs.List.{sum_by}
use Rattle.iter.specs.Intervals.{cover, whole}
use Rattle.ruled_deques.specs.EndsView.{given}
use Rattle.partial_results.specs.Worked.{once}
use Rattle.task_pool.proofs.Balances.{closed, given_later}
use Rattle.iter.proofs.Tiling.{cover_append}
use Rattle.task_pool.proofs.Places.{sum_first}
use Rattle.task_pool.proofs.gather.gather.Goals as goal

pub returns-clause-balance : goal.returns-clause-balance
returns-clause-balance g c = λ p.
    let a = c.in_ok-ends.ensures in
    let parted = c.in_ok-ends.field-0 in
    let ends = parted.ends.items in
    let left = parted.gathered.leftover.items in
    let rest = c.in_ok-rest.rest.items in
    let len : length ends ≡ length c.args.done.items = a.len.0 in
    let some : 0 < length ends = omega (arith, len, c.requires.count.0, c.requires.count.1) in
    let first : sum_by (λ e. cover (given whole e.place) p) ends ≡ cover (given whole 0) p = sum_first (λ k. cover (given whole k) p) (λ e. e.place) ends (λ k. given_later k p) some (λ i d lt. a.places i d lt) in
    let closing : sum_by (λ e. cover e.pushed p) ends ≡ sum_by (λ e. cover e.taken p) ends + cover rest p = c.in_ok-rest.ensures (λ i. once i p) in
    closed _ _ _ _ _ _ _ _ first (a.balance p) closing (ap (λ xs. cover xs p) c.in_ok-append.ensures.items ∙ cover_append left rest p)
