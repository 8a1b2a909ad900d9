use Rattle.std.proofs.Common.{rules, ◌≡◌, ◌<◌, ◌+◌, length, ap, ◌∙◌}
use Rattle.std.specs.List.{sum_by}
use Rattle.std.proofs.lemmas.List.Sums.{sum_by_push}
use Rattle.ruled_deques.specs.Counts.{taken_through, token_taken}
use Rattle.ruled_deques.proofs.Steps.{set_sum}
use Rattle.ruled_deques.proofs.worker_ends.steal_any.Goals as goal

pub returns-in-Some-clause-took : goal.returns-in-Some-clause-took
returns-in-Some-clause-took g c = λ h.
    let xs = c.loop-k.thefts.items in
    let k = c.loop-k.k in
    let x = c.index_mut.result.now in
    let y = c.steal.new.self in
    let lt : k < length xs = search rules in
    let more : token_taken h y.token ≡ token_taken h x.token + h c.in-Some.item = ap (λ v. sum_by h v.taken) c.in-Some.ensures.did ∙ sum_by_push h (taken_through x.token) c.in-Some.item in
    set_sum (λ t. token_taken h t.token) xs k y x (h c.in-Some.item) lt c.index_mut.ensures.value more ∙ ap (λ n. n + h c.in-Some.item) (c.loop-k.invariant.1 h)
