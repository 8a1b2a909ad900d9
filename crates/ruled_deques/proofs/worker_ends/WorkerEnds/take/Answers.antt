use Rattle.std.proofs.Common.{◌≡◌, ap, arith}
use Rattle.crossbeam_deque.specs.Handles.{worker_view}
use Rattle.ruled_deques.specs.Counts.{taken_through}
use Rattle.ruled_deques.proofs.Sharings.{took_more}
use Rattle.ruled_deques.proofs.Steps.{match_map}
use Rattle.ruled_deques.proofs.worker_ends.WorkerEnds.take.Goals as goal

pub returns-clause-took : goal.returns-clause-took
returns-clause-took g c =
    let own = (worker_view c.self.inside.own.owner).taken in
    let now = (worker_view c.pop.new.self.owner).taken in
    let same : now ≡ own = ap (λ v. v.taken) c.in_default.ensures.did.0 in
    match_map c.steal_any.result _ _ _ _
    (λ k h. let q = took_more h own now c.args.self.now.taken (λ t. taken_through t.token) c.self.inside.thefts.items c.steal_any.new.thefts.items 0 same (ap (λ e. e.taken) c.self.view_is) (omega (arith, k h)) in omega (arith, q))
    (λ x k h. took_more h own now c.args.self.now.taken (λ t. taken_through t.token) c.self.inside.thefts.items c.steal_any.new.thefts.items (h x) same (ap (λ e. e.taken) c.self.view_is) (k h))
    c.steal_any.ensures.took
