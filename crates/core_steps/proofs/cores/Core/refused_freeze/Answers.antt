use Rattle.std.proofs.Common.{◌≡◌, None, sym, subst}
use Rattle.handles.specs.Machine.{freeze, refusal}
use Rattle.handles.specs.Views.{frozen_outcome}
use Rattle.core_steps.specs.Cores.{of_client}
use Rattle.core_steps.specs.JobStates.{job_states_of, value_of}
use Rattle.core_steps.specs.Queries.{asked, divided}
use Rattle.core_steps.specs.Steps.{IsAnswered}
use Rattle.core_steps.proofs.KeptBoards.{cuts_within}
use Rattle.core_steps.proofs.WholeSteps.{refusal_whole}
use Rattle.core_steps.proofs.DueSteps.{due_refused}
use Rattle.core_steps.proofs.cores.Core.refused_freeze.Goals as goal

pub invariant_of-self : goal.invariant_of-self
invariant_of-self g c =
    let path = g.K.PathKey.path_of in
    let kind = asked g.K.Ord.cmp g.V.PartialEq.eq g.Q.Asks.target_of g.Q.Asks.answered in
    let t = c.self.inside in
    (refusal_whole g.K.Ord.cmp path g.Q.Bulk.answers g.Q.Bulk.ready kind g.Q.Bulk.decides (cuts_within path c.law_of_cuts.ensures.divide) frozen_outcome t.table c.freeze.new.self (job_states_of t.job_states.items) t.workers t.grain (freeze c.args.handle c.args.query.value) c.in-Err.refusal c.in-Err.ensures.step c.self.invariant).1

pub returns-clause-step : goal.returns-clause-step
returns-clause-step g c =
    let path = g.K.PathKey.path_of in
    let kind = asked g.K.Ord.cmp g.V.PartialEq.eq g.Q.Asks.target_of g.Q.Asks.answered in
    let division = divided path g.Q.Bulk.decides in
    let t = c.self.inside in
    let job_states = job_states_of t.job_states.items in
    let after = value_of c.freeze.new.self job_states t.workers t.grain in
    let answered = (refusal_whole g.K.Ord.cmp path g.Q.Bulk.answers g.Q.Bulk.ready kind g.Q.Bulk.decides (cuts_within path c.law_of_cuts.ensures.divide) frozen_outcome t.table c.freeze.new.self job_states t.workers t.grain (freeze c.args.handle c.args.query.value) c.in-Err.refusal c.in-Err.ensures.step c.self.invariant).0 in
    subst (λ s. IsAnswered kind division s (of_client (freeze c.args.handle c.args.query.value)) c.refused.result after) c.self.view_is
    (subst (λ r. IsAnswered kind division (value_of t.table job_states t.workers t.grain) (of_client (freeze c.args.handle c.args.query.value)) r after) (sym c.refused.ensures) answered)

pub returns-clause-due : goal.returns-clause-due
returns-clause-due g c =
    let kind = asked g.K.Ord.cmp g.V.PartialEq.eq g.Q.Asks.target_of g.Q.Asks.answered in
    due_refused (refusal kind c.args.self.now.state.machine (freeze c.args.handle c.args.query.value) ≡ None) c.refused.result c.in-Err.refusal c.refused.ensures
    (λ lacks. subst (λ s. refusal kind s.state.machine (freeze c.args.handle c.args.query.value) ≡ None) c.self.view_is (c.in-Err.ensures.due lacks))
