use Rattle.std.proofs.Common.{rules, ◌≡◌, false, true, sym, inl, inr, subst, ◌∙◌}
use Rattle.std.proofs.lemmas.Bool.{false≢true}
use Rattle.core_steps.specs.Collected.{IsCollected, MayCollect}
use Rattle.worker_states.specs.WorkerValues.{IsJobOn}
use Rattle.core_steps.proofs.Collections.{settled_collects}
use Rattle.core_steps.proofs.Takings.{if_ok}
use Rattle.core_steps.proofs.DueSteps.{at_err, if_err}
use Rattle.core_steps.proofs.collecting.collected.Goals as goal

pub returns-clause-part : goal.returns-clause-part
returns-clause-part g c =
    let R = g.K.Ord.cmp in
    let path = g.K.PathKey.path_of in
    let answers = g.B.Bulk.answers c.args.bulk.now in
    let decides = g.B.Bulk.decides c.args.bulk.now in
    let no : c.is_done.result ≡ false = search rules in
    if_ok _ _ c.settled_part.result
    (λ part settles m job.
    subst (λ ds. IsCollected path answers decides m ds part) c.worker_states-worker_states.ensures
    (settled_collects path answers decides m c.worker_states-worker_states.result.now part (λ none. false≢true (sym no ∙ c.is_done.ensures.1 none)) (settles m (subst (IsJobOn R path answers m) (sym c.worker_states-worker_states.ensures) job))))
    c.settled_part.ensures.part

pub returns-in_err-joined-clause-wanting : goal.returns-in_err-joined-clause-wanting
returns-in_err-joined-clause-wanting g c =
    let path = g.K.PathKey.path_of in
    let answers = g.B.Bulk.answers c.args.bulk.now in
    let decides = g.B.Bulk.decides c.args.bulk.now in
    let yes : c.is_done.result ≡ true = search rules in
    at_err c.from_residual.result
    (λ m job. subst (MayCollect path answers decides m) c.worker_states-worker_states.ensures (inl (c.is_done.ensures.0 yes)))

pub returns-clause-wanting : goal.returns-clause-wanting
returns-clause-wanting g c =
    let R = g.K.Ord.cmp in
    let path = g.K.PathKey.path_of in
    let answers = g.B.Bulk.answers c.args.bulk.now in
    let decides = g.B.Bulk.decides c.args.bulk.now in
    if_err _ _ c.settled_part.result
    (λ decided m job. subst (MayCollect path answers decides m) c.worker_states-worker_states.ensures (inr (decided m (subst (IsJobOn R path answers m) (sym c.worker_states-worker_states.ensures) job))))
    c.settled_part.ensures.wanting
