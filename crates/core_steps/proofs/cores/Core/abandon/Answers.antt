use Rattle.std.proofs.Common.{◌≡◌, None, false, sym, subst}
use Rattle.handles.specs.Machine.{abandon, refusal}
use Rattle.handles.specs.Views.{unit_outcome}
use Rattle.core_steps.specs.Cores.{of_client}
use Rattle.core_steps.specs.JobStates.{IsWhole, job_states_of, value_of}
use Rattle.core_steps.specs.Queries.{asked, divided}
use Rattle.core_steps.specs.Steps.{IsAnswered, StepsTo, takes_no_memory}
use Rattle.core_steps.specs.declared.outcome.Outcome.TheVariants.{Abandoned}
use Rattle.core_steps.proofs.KeptBoards.{cuts_within}
use Rattle.core_steps.proofs.WholeSteps.{refusal_whole, abandoned_whole}
use Rattle.core_steps.proofs.DueSteps.{never_wanting}
use Rattle.core_steps.proofs.cores.Core.abandon.Goals as goal

pub returns-in-Err-clause-step : goal.returns-in-Err-clause-step
returns-in-Err-clause-step g c =
    let R = g.K.Ord.cmp in
    let path = g.K.PathKey.path_of in
    let kind = asked R g.V.PartialEq.eq g.Q.Asks.target_of g.Q.Asks.answered in
    let cuts = cuts_within path c.law_of_cuts.ensures.divide in
    let t = c.self.inside in
    let ps = t.job_states.items in
    let division = divided path g.Q.Bulk.decides in
    let after = value_of c.abandon.new.self (job_states_of ps) t.workers t.grain in
    let answered = (refusal_whole R path g.Q.Bulk.answers g.Q.Bulk.ready kind g.Q.Bulk.decides cuts unit_outcome t.table c.abandon.new.self (job_states_of ps) t.workers t.grain (abandon c.args.job) c.in-Err.refusal c.in-Err.ensures.step c.self.invariant).0 in
    subst (λ s. IsAnswered kind division s (of_client (abandon c.args.job)) c.refused.result after) c.self.view_is
    (subst (λ r. IsAnswered kind division (value_of t.table (job_states_of ps) t.workers t.grain) (of_client (abandon c.args.job)) r after) (sym c.refused.ensures) answered)

pub invariant_of-self-2 : goal.invariant_of-self-2
invariant_of-self-2 g c =
    let R = g.K.Ord.cmp in
    let path = g.K.PathKey.path_of in
    let kind = asked R g.V.PartialEq.eq g.Q.Asks.target_of g.Q.Asks.answered in
    let cuts = cuts_within path c.law_of_cuts.ensures.divide in
    let t = c.self.inside in
    let ps = t.job_states.items in
    let closed = abandoned_whole R path g.Q.Bulk.answers g.Q.Bulk.ready kind g.Q.Bulk.decides cuts t.table c.abandon.new.self (job_states_of ps) t.workers t.grain c.args.job c.in-Ok.ensures.step c.self.invariant in
    subst (λ job_states. IsWhole R path g.Q.Bulk.answers g.Q.Bulk.ready c.abandon.new.self job_states t.workers t.grain) (sym c.close.ensures) closed.1

pub returns-clause-step : goal.returns-clause-step
returns-clause-step g c =
    let R = g.K.Ord.cmp in
    let path = g.K.PathKey.path_of in
    let kind = asked R g.V.PartialEq.eq g.Q.Asks.target_of g.Q.Asks.answered in
    let cuts = cuts_within path c.law_of_cuts.ensures.divide in
    let t = c.self.inside in
    let ps = t.job_states.items in
    let division = divided path g.Q.Bulk.decides in
    let closed = abandoned_whole R path g.Q.Bulk.answers g.Q.Bulk.ready kind g.Q.Bulk.decides cuts t.table c.abandon.new.self (job_states_of ps) t.workers t.grain c.args.job c.in-Ok.ensures.step c.self.invariant in
    subst (λ s. StepsTo kind division s (of_client (abandon c.args.job)) Abandoned (value_of c.abandon.new.self (job_states_of c.close.new.job_states.items) t.workers t.grain)) c.self.view_is
    (subst (λ job_states. StepsTo kind division (value_of t.table (job_states_of ps) t.workers t.grain) (of_client (abandon c.args.job)) Abandoned (value_of c.abandon.new.self job_states t.workers t.grain)) (sym c.close.ensures) closed.0)

pub returns-in-Err-clause-due : goal.returns-in-Err-clause-due
returns-in-Err-clause-due g c =
    let kind = asked g.K.Ord.cmp g.V.PartialEq.eq g.Q.Asks.target_of g.Q.Asks.answered in
    never_wanting (refusal kind c.args.self.now.state.machine (abandon c.args.job) ≡ None) c.refused.result c.in-Err.refusal c.refused.ensures c.in-Err.ensures.memory

pub returns-in-Err-clause-memory : goal.returns-in-Err-clause-memory
returns-in-Err-clause-memory g c =
    never_wanting (takes_no_memory {K = g.row.K.Denot} {V = g.row.V.Denot} {Q = g.row.Q.Denot} (of_client (abandon c.args.job)) ≡ false) c.refused.result c.in-Err.refusal c.refused.ensures c.in-Err.ensures.memory
