use Rattle.std.proofs.Common.{◌≡◌, None, sym, subst}
use Rattle.handles.specs.Machine.{finish, refusal}
use Rattle.handles.specs.Views.{finished_outcome}
use Rattle.core_steps.specs.Cores.{of_client}
use Rattle.worker_states.specs.WorkerValues.{IsJobOn}
use Rattle.core_steps.specs.JobStates.{IsPlaceOf, IsWhole, job_states_of, value_of}
use Rattle.core_steps.specs.Queries.{asked, divided}
use Rattle.core_steps.specs.Steps.{IsAnswered, MayFinish, StepsTo}
use Rattle.core_steps.specs.declared.outcome.Outcome.TheVariants.{Answer, Unfinished}
use Rattle.core_steps.proofs.KeptBoards.{cuts_within}
use Rattle.core_steps.proofs.WholeSteps.{refusal_whole, finished_whole}
use Rattle.core_steps.proofs.OpenSteps.{open_here, finish_unrefused, may_finish_here, unfinished_here, collected_here}
use Rattle.core_steps.proofs.DueSteps.{at_err, never_wanting}
use Rattle.core_steps.proofs.cores.Core.finish.Goals as goal

pub collected-requires : goal.collected-requires
collected-requires g c =
    let R = g.K.Ord.cmp in
    let path = g.K.PathKey.path_of in
    let kind = asked R g.V.PartialEq.eq g.Q.Asks.target_of g.Q.Asks.answered in
    let cuts = cuts_within path c.law_of_cuts.ensures.divide in
    let t = c.self.inside in
    let ps = t.job_states.items in
    let lies = subst (λ qs. IsPlaceOf qs c.args.job c.in-Some.place) c.deref.ensures.value c.in-Some.ensures.some in
    let d = c.index-job_state.result.now in
    let stands = open_here R path g.Q.Bulk.answers g.Q.Bulk.ready kind g.Q.Bulk.decides cuts t.table ps t.workers t.grain c.self.invariant c.args.job c.in-Some.place lies d c.index-job_state.ensures in
    (stands.job.frozen, subst (λ q. IsJobOn R path (g.Q.Bulk.answers q) stands.job.frozen d.board) (sym c.deref-2.ensures) stands.has.worker_states)

pub returns-in_default-2-clause-step : goal.returns-in_default-2-clause-step
returns-in_default-2-clause-step g c =
    let R = g.K.Ord.cmp in
    let path = g.K.PathKey.path_of in
    let kind = asked R g.V.PartialEq.eq g.Q.Asks.target_of g.Q.Asks.answered in
    let cuts = cuts_within path c.law_of_cuts.ensures.divide in
    let t = c.self.inside in
    let ps = t.job_states.items in
    let lies = subst (λ qs. IsPlaceOf qs c.args.job c.in-Some.place) c.deref.ensures.value c.in-Some.ensures.some in
    subst (λ s. StepsTo kind (divided path g.Q.Bulk.decides) s (of_client (finish c.args.job)) Unfinished s) c.self.view_is
    (unfinished_here R path g.Q.Bulk.answers g.Q.Bulk.ready kind g.Q.Bulk.decides cuts t.table ps t.workers t.grain c.self.invariant c.args.job c.in-Some.place lies
    c.index-job_state.result.now c.deref-2.result.now c.in_ok-part.field-0 c.index-job_state.ensures c.deref-2.ensures c.in_default-2.is c.in_ok-part.ensures.part)

pub finish-requires : goal.finish-requires
finish-requires g c =
    let R = g.K.Ord.cmp in
    let path = g.K.PathKey.path_of in
    let kind = asked R g.V.PartialEq.eq g.Q.Asks.target_of g.Q.Asks.answered in
    let cuts = cuts_within path c.law_of_cuts.ensures.divide in
    let t = c.self.inside in
    let ps = t.job_states.items in
    let lies = subst (λ qs. IsPlaceOf qs c.args.job c.in-Some.place) c.deref.ensures.value c.in-Some.ensures.some in
    (collected_here R path g.Q.Bulk.answers g.Q.Bulk.ready kind g.Q.Bulk.decides cuts t.table ps t.workers t.grain c.self.invariant c.args.job c.in-Some.place lies
    c.parts_follow_intervals.ensures.whole c.index-job_state.result.now c.deref-2.result.now c.in_ok-part.field-0 c.in-Some-2.part c.index-job_state.ensures c.deref-2.ensures c.in-Some-2.is c.in_ok-part.ensures.part).0

pub returns-in-Err-clause-step : goal.returns-in-Err-clause-step
returns-in-Err-clause-step g c =
    let R = g.K.Ord.cmp in
    let path = g.K.PathKey.path_of in
    let kind = asked R g.V.PartialEq.eq g.Q.Asks.target_of g.Q.Asks.answered in
    let cuts = cuts_within path c.law_of_cuts.ensures.divide in
    let t = c.self.inside in
    let ps = t.job_states.items in
    let division = divided path g.Q.Bulk.decides in
    let after = value_of c.finish.new.self (job_states_of ps) t.workers t.grain in
    let answered = (refusal_whole R path g.Q.Bulk.answers g.Q.Bulk.ready kind g.Q.Bulk.decides cuts finished_outcome t.table c.finish.new.self (job_states_of ps) t.workers t.grain (finish c.args.job) c.in-Err.refusal c.in-Err.ensures.step c.self.invariant).0 in
    subst (λ s. IsAnswered kind division s (of_client (finish c.args.job)) c.refused.result after) c.self.view_is
    (subst (λ r. IsAnswered kind division (value_of t.table (job_states_of ps) t.workers t.grain) (of_client (finish c.args.job)) r after) (sym c.refused.ensures) answered)

pub invariant_of-self-2 : goal.invariant_of-self-2
invariant_of-self-2 g c =
    let R = g.K.Ord.cmp in
    let path = g.K.PathKey.path_of in
    let kind = asked R g.V.PartialEq.eq g.Q.Asks.target_of g.Q.Asks.answered in
    let cuts = cuts_within path c.law_of_cuts.ensures.divide in
    let t = c.self.inside in
    let ps = t.job_states.items in
    let lies = subst (λ qs. IsPlaceOf qs c.args.job c.in-Some.place) c.deref.ensures.value c.in-Some.ensures.some in
    let exact = (collected_here R path g.Q.Bulk.answers g.Q.Bulk.ready kind g.Q.Bulk.decides cuts t.table ps t.workers t.grain c.self.invariant c.args.job c.in-Some.place lies
    c.parts_follow_intervals.ensures.whole c.index-job_state.result.now c.deref-2.result.now c.in_ok-part.field-0 c.in-Some-2.part c.index-job_state.ensures c.deref-2.ensures c.in-Some-2.is c.in_ok-part.ensures.part).1 in
    let closed = finished_whole R path g.Q.Bulk.answers g.Q.Bulk.ready kind g.Q.Bulk.decides cuts t.table c.finish.new.self (job_states_of ps) t.workers t.grain c.args.job c.in-Ok.answer c.in-Ok.ensures.step exact c.self.invariant in
    subst (λ job_states. IsWhole R path g.Q.Bulk.answers g.Q.Bulk.ready c.finish.new.self job_states t.workers t.grain) (sym c.close.ensures) closed.1

pub returns-clause-step : goal.returns-clause-step
returns-clause-step g c =
    let R = g.K.Ord.cmp in
    let path = g.K.PathKey.path_of in
    let kind = asked R g.V.PartialEq.eq g.Q.Asks.target_of g.Q.Asks.answered in
    let cuts = cuts_within path c.law_of_cuts.ensures.divide in
    let t = c.self.inside in
    let ps = t.job_states.items in
    let lies = subst (λ qs. IsPlaceOf qs c.args.job c.in-Some.place) c.deref.ensures.value c.in-Some.ensures.some in
    let division = divided path g.Q.Bulk.decides in
    let exact = (collected_here R path g.Q.Bulk.answers g.Q.Bulk.ready kind g.Q.Bulk.decides cuts t.table ps t.workers t.grain c.self.invariant c.args.job c.in-Some.place lies
    c.parts_follow_intervals.ensures.whole c.index-job_state.result.now c.deref-2.result.now c.in_ok-part.field-0 c.in-Some-2.part c.index-job_state.ensures c.deref-2.ensures c.in-Some-2.is c.in_ok-part.ensures.part).1 in
    let closed = finished_whole R path g.Q.Bulk.answers g.Q.Bulk.ready kind g.Q.Bulk.decides cuts t.table c.finish.new.self (job_states_of ps) t.workers t.grain c.args.job c.in-Ok.answer c.in-Ok.ensures.step exact c.self.invariant in
    subst (λ s. StepsTo kind division s (of_client (finish c.args.job)) (Answer c.in-Ok.answer) (value_of c.finish.new.self (job_states_of c.close.new.job_states.items) t.workers t.grain)) c.self.view_is
    (subst (λ job_states. StepsTo kind division (value_of t.table (job_states_of ps) t.workers t.grain) (of_client (finish c.args.job)) (Answer c.in-Ok.answer) (value_of c.finish.new.self job_states t.workers t.grain)) (sym c.close.ensures) closed.0)

pub returns-in_err-part-clause-due : goal.returns-in_err-part-clause-due
returns-in_err-part-clause-due g c =
    let R = g.K.Ord.cmp in
    let path = g.K.PathKey.path_of in
    let kind = asked R g.V.PartialEq.eq g.Q.Asks.target_of g.Q.Asks.answered in
    let cuts = cuts_within path c.law_of_cuts.ensures.divide in
    let t = c.self.inside in
    let ps = t.job_states.items in
    let lies = subst (λ qs. IsPlaceOf qs c.args.job c.in-Some.place) c.deref.ensures.value c.in-Some.ensures.some in
    at_err c.from_residual.result (subst (λ s. refusal kind s.state.machine (finish c.args.job) ≡ None) c.self.view_is
    (finish_unrefused R path g.Q.Bulk.answers g.Q.Bulk.ready kind g.Q.Bulk.decides cuts t.table ps t.workers t.grain c.self.invariant c.args.job c.in-Some.place lies))

pub returns-in_err-part-clause-unfinished : goal.returns-in_err-part-clause-unfinished
returns-in_err-part-clause-unfinished g c =
    let R = g.K.Ord.cmp in
    let path = g.K.PathKey.path_of in
    let kind = asked R g.V.PartialEq.eq g.Q.Asks.target_of g.Q.Asks.answered in
    let cuts = cuts_within path c.law_of_cuts.ensures.divide in
    let t = c.self.inside in
    let ps = t.job_states.items in
    let lies = subst (λ qs. IsPlaceOf qs c.args.job c.in-Some.place) c.deref.ensures.value c.in-Some.ensures.some in
    at_err c.from_residual.result (subst (λ s. MayFinish (divided path g.Q.Bulk.decides) s.state (of_client (finish c.args.job))) c.self.view_is
    (may_finish_here R path g.Q.Bulk.answers g.Q.Bulk.ready kind g.Q.Bulk.decides cuts t.table ps t.workers t.grain c.self.invariant c.args.job c.in-Some.place lies
    c.index-job_state.result.now c.deref-2.result.now c.index-job_state.ensures c.deref-2.ensures c.in_err-part.ensures.wanting))

pub returns-in-Err-clause-unfinished : goal.returns-in-Err-clause-unfinished
returns-in-Err-clause-unfinished g c =
    never_wanting (MayFinish (divided g.K.PathKey.path_of g.Q.Bulk.decides) c.args.self.now.state (of_client (finish c.args.job))) c.refused.result c.in-Err.refusal c.refused.ensures c.in-Err.ensures.memory

pub returns-in-Err-clause-due : goal.returns-in-Err-clause-due
returns-in-Err-clause-due g c =
    let kind = asked g.K.Ord.cmp g.V.PartialEq.eq g.Q.Asks.target_of g.Q.Asks.answered in
    never_wanting (refusal kind c.args.self.now.state.machine (finish c.args.job) ≡ None) c.refused.result c.in-Err.refusal c.refused.ensures c.in-Err.ensures.memory
