use Rattle.std.proofs.Common.{◌≡◌, ◌∙◌, None, set, sym, subst}
use Rattle.core_steps.specs.Cores.{of_worker, refusal_of}
use Rattle.worker_states.specs.WorkerValues.{IsJobOn}
use Rattle.core_steps.specs.Moves.{move_of}
use Rattle.core_steps.specs.JobStates.{IsPlaceOf, job_states_of, value_of, job_state_of}
use Rattle.core_steps.specs.Queries.{asked, divided}
use Rattle.core_steps.specs.Steps.{StepsTo}
use Rattle.versions.specs.declared.refusal.Refusal.TheVariants.{NoWorker}
use Rattle.core_steps.specs.declared.outcome.Outcome.TheVariants.{Moved, Refused}
use Rattle.core_steps.proofs.KeptBoards.{cuts_within}
use Rattle.core_steps.proofs.WholeSteps.{names_states}
use Rattle.core_steps.proofs.OpenSteps.{open_here, move_unrefused, other_here, moved_here, unmoved_here}
use Rattle.core_steps.proofs.DueSteps.{at_err}
use Rattle.core_steps.proofs.cores.Core.make_move.Goals as goal

pub returns-then-names_other-clause-step : goal.returns-then-names_other-clause-step
returns-then-names_other-clause-step g c =
    let R = g.K.Ord.cmp in
    let path = g.K.PathKey.path_of in
    let kind = asked R g.V.PartialEq.eq g.Q.Asks.target_of g.Q.Asks.answered in
    let cuts = cuts_within path c.law_of_cuts.ensures.divide in
    let t = c.self.inside in
    let ps = t.job_states.items in
    let lies = subst (λ qs. IsPlaceOf qs c.args.job c.in-Some.place) c.deref.ensures.value c.in-Some.ensures.some in
    subst (λ s. StepsTo kind (divided path g.Q.Bulk.decides) s (of_worker c.args.job (move_of c.args.chosen)) (Refused NoWorker) s) c.self.view_is
    (other_here R path g.Q.Bulk.answers g.Q.Bulk.ready kind g.Q.Bulk.decides cuts t.table ps t.workers t.grain c.self.invariant c.args.job c.in-Some.place lies
    (move_of c.args.chosen) (sym c.names_other.ensures ∙ c.if-names_other.true))

pub make_move-requires-clause-ready : goal.make_move-requires-clause-ready
make_move-requires-clause-ready g c =
    let R = g.K.Ord.cmp in
    let path = g.K.PathKey.path_of in
    let kind = asked R g.V.PartialEq.eq g.Q.Asks.target_of g.Q.Asks.answered in
    let cuts = cuts_within path c.law_of_cuts.ensures.divide in
    let t = c.self.inside in
    let ps = t.job_states.items in
    let lies = subst (λ qs. IsPlaceOf qs c.args.job c.in-Some.place) c.deref.ensures.value c.in-Some.ensures.some in
    let stands = open_here R path g.Q.Bulk.answers g.Q.Bulk.ready kind g.Q.Bulk.decides cuts t.table ps t.workers t.grain c.self.invariant c.args.job c.in-Some.place lies c.index_mut-job_state.result.now c.index_mut-job_state.ensures.value in
    subst g.Q.Bulk.ready (sym c.deref-2.ensures) stands.has.can

pub make_move-requires-clause-named : goal.make_move-requires-clause-named
make_move-requires-clause-named g c =
    let R = g.K.Ord.cmp in
    let path = g.K.PathKey.path_of in
    let kind = asked R g.V.PartialEq.eq g.Q.Asks.target_of g.Q.Asks.answered in
    let cuts = cuts_within path c.law_of_cuts.ensures.divide in
    let t = c.self.inside in
    let ps = t.job_states.items in
    let lies = subst (λ qs. IsPlaceOf qs c.args.job c.in-Some.place) c.deref.ensures.value c.in-Some.ensures.some in
    let d = c.index_mut-job_state.result.now in
    let stands = open_here R path g.Q.Bulk.answers g.Q.Bulk.ready kind g.Q.Bulk.decides cuts t.table ps t.workers t.grain c.self.invariant c.args.job c.in-Some.place lies d c.index_mut-job_state.ensures.value in
    names_states R path g.Q.Bulk.answers g.Q.Bulk.ready kind g.Q.Bulk.decides cuts t.table (job_states_of ps) t.workers t.grain c.args.job (move_of c.args.chosen) (job_state_of d).1 stands (sym c.names_other.ensures ∙ c.if-names_other.false) c.self.invariant

pub make_move-requires-clause-job : goal.make_move-requires-clause-job
make_move-requires-clause-job g c =
    let R = g.K.Ord.cmp in
    let path = g.K.PathKey.path_of in
    let kind = asked R g.V.PartialEq.eq g.Q.Asks.target_of g.Q.Asks.answered in
    let cuts = cuts_within path c.law_of_cuts.ensures.divide in
    let t = c.self.inside in
    let ps = t.job_states.items in
    let lies = subst (λ qs. IsPlaceOf qs c.args.job c.in-Some.place) c.deref.ensures.value c.in-Some.ensures.some in
    let d = c.index_mut-job_state.result.now in
    let stands = open_here R path g.Q.Bulk.answers g.Q.Bulk.ready kind g.Q.Bulk.decides cuts t.table ps t.workers t.grain c.self.invariant c.args.job c.in-Some.place lies d c.index_mut-job_state.ensures.value in
    (stands.job.frozen, subst (λ q. IsJobOn R path (g.Q.Bulk.answers q) stands.job.frozen d.board) (sym c.deref-2.ensures) stands.has.worker_states)

pub invariant_of-self : goal.invariant_of-self
invariant_of-self g c =
    let R = g.K.Ord.cmp in
    let path = g.K.PathKey.path_of in
    let kind = asked R g.V.PartialEq.eq g.Q.Asks.target_of g.Q.Asks.answered in
    let cuts = cuts_within path c.law_of_cuts.ensures.divide in
    let t = c.self.inside in
    let ps = t.job_states.items in
    let lies = subst (λ qs. IsPlaceOf qs c.args.job c.in-Some.place) c.deref.ensures.value c.in-Some.ensures.some in
    unmoved_here R path g.Q.Bulk.answers g.Q.Bulk.ready kind g.Q.Bulk.decides cuts t.table ps t.workers t.grain c.self.invariant c.args.job c.in-Some.place lies
    c.index_mut-job_state.result.now c.make_move.new.board c.index_mut-job_state.ensures.value c.in_err-progress.ensures.err

pub invariant_of-self-2 : goal.invariant_of-self-2
invariant_of-self-2 g c =
    let R = g.K.Ord.cmp in
    let path = g.K.PathKey.path_of in
    let kind = asked R g.V.PartialEq.eq g.Q.Asks.target_of g.Q.Asks.answered in
    let cuts = cuts_within path c.law_of_cuts.ensures.divide in
    let t = c.self.inside in
    let ps = t.job_states.items in
    let lies = subst (λ qs. IsPlaceOf qs c.args.job c.in-Some.place) c.deref.ensures.value c.in-Some.ensures.some in
    (moved_here R path g.Q.Bulk.answers g.Q.Bulk.ready kind g.Q.Bulk.decides cuts t.table ps t.workers t.grain c.self.invariant c.args.job c.in-Some.place lies
    c.index_mut-job_state.result.now (move_of c.args.chosen) c.in_ok-progress.progress c.deref-2.result.now c.make_move.new.board c.index_mut-job_state.ensures.value c.deref-2.ensures (sym c.names_other.ensures ∙ c.if-names_other.false) c.in_ok-progress.ensures.ok).1

pub returns-clause-step : goal.returns-clause-step
returns-clause-step g c =
    let R = g.K.Ord.cmp in
    let path = g.K.PathKey.path_of in
    let kind = asked R g.V.PartialEq.eq g.Q.Asks.target_of g.Q.Asks.answered in
    let cuts = cuts_within path c.law_of_cuts.ensures.divide in
    let t = c.self.inside in
    let ps = t.job_states.items in
    let lies = subst (λ qs. IsPlaceOf qs c.args.job c.in-Some.place) c.deref.ensures.value c.in-Some.ensures.some in
    let d = c.index_mut-job_state.result.now in
    let moved = moved_here R path g.Q.Bulk.answers g.Q.Bulk.ready kind g.Q.Bulk.decides cuts t.table ps t.workers t.grain c.self.invariant c.args.job c.in-Some.place lies
    d (move_of c.args.chosen) c.in_ok-progress.progress c.deref-2.result.now c.make_move.new.board c.index_mut-job_state.ensures.value c.deref-2.ensures (sym c.names_other.ensures ∙ c.if-names_other.false) c.in_ok-progress.ensures.ok in
    subst (λ s. StepsTo kind (divided path g.Q.Bulk.decides) s (of_worker c.args.job (move_of c.args.chosen)) (Moved c.in_ok-progress.progress) (value_of t.table (job_states_of (set ps c.in-Some.place (record d { board = c.make_move.new.board }))) t.workers t.grain)) c.self.view_is moved.0

pub returns-in_err-progress-clause-due : goal.returns-in_err-progress-clause-due
returns-in_err-progress-clause-due g c =
    let R = g.K.Ord.cmp in
    let path = g.K.PathKey.path_of in
    let kind = asked R g.V.PartialEq.eq g.Q.Asks.target_of g.Q.Asks.answered in
    let cuts = cuts_within path c.law_of_cuts.ensures.divide in
    let t = c.self.inside in
    let ps = t.job_states.items in
    let lies = subst (λ qs. IsPlaceOf qs c.args.job c.in-Some.place) c.deref.ensures.value c.in-Some.ensures.some in
    at_err c.from_residual.result (subst (λ s. refusal_of s.state c.args.job (move_of c.args.chosen) ≡ None) c.self.view_is
    (move_unrefused R path g.Q.Bulk.answers g.Q.Bulk.ready kind g.Q.Bulk.decides cuts t.table ps t.workers t.grain c.self.invariant c.args.job c.in-Some.place lies
    (move_of c.args.chosen) (sym c.names_other.ensures ∙ c.if-names_other.false)))
