use Rattle.std.proofs.Common.{◌≡◌, None, sym, subst}
use Rattle.core_steps.specs.Cores.{of_client}
use Rattle.handles.specs.Machine.{refusal, view}
use Rattle.core_steps.specs.JobStates.{job_states_of, value_of}
use Rattle.core_steps.specs.Queries.{asked, divided}
use Rattle.core_steps.specs.Steps.{IsAnswered}
use Rattle.core_steps.proofs.KeptBoards.{cuts_within}
use Rattle.core_steps.proofs.WholeSteps.{view_whole}
use Rattle.core_steps.proofs.DueSteps.{due_viewed}
use Rattle.core_steps.proofs.cores.Core.view.Goals as goal

pub invariant_of-self : goal.invariant_of-self
invariant_of-self g c =
    let kind = asked g.K.Ord.cmp g.V.PartialEq.eq g.Q.Asks.target_of g.Q.Asks.answered in
    let t = c.self.inside in
    (view_whole g.K.Ord.cmp g.K.PathKey.path_of g.Q.Bulk.answers g.Q.Bulk.ready kind g.Q.Bulk.decides (cuts_within g.K.PathKey.path_of c.law_of_cuts.ensures.divide)
    c.law_of_open_jobs.ensures t.table c.view.new.self (job_states_of t.job_states.items) t.workers t.grain c.args.handle c.view.result c.view.ensures.step c.self.invariant).1

pub returns-clause-step : goal.returns-clause-step
returns-clause-step g c =
    let kind = asked g.K.Ord.cmp g.V.PartialEq.eq g.Q.Asks.target_of g.Q.Asks.answered in
    let division = divided g.K.PathKey.path_of g.Q.Bulk.decides in
    let t = c.self.inside in
    let after = value_of c.view.new.self (job_states_of t.job_states.items) t.workers t.grain in
    let answered = (view_whole g.K.Ord.cmp g.K.PathKey.path_of g.Q.Bulk.answers g.Q.Bulk.ready kind g.Q.Bulk.decides (cuts_within g.K.PathKey.path_of c.law_of_cuts.ensures.divide)
    c.law_of_open_jobs.ensures t.table c.view.new.self (job_states_of t.job_states.items) t.workers t.grain c.args.handle c.view.result c.view.ensures.step c.self.invariant).0 in
    subst (λ s. IsAnswered kind division s (of_client (view c.args.handle)) c.view_outcome.result after) c.self.view_is
    (subst (λ r. IsAnswered kind division (value_of t.table (job_states_of t.job_states.items) t.workers t.grain) (of_client (view c.args.handle)) r after) (sym c.view_outcome.ensures) answered)

pub returns-clause-due : goal.returns-clause-due
returns-clause-due g c =
    let kind = asked g.K.Ord.cmp g.V.PartialEq.eq g.Q.Asks.target_of g.Q.Asks.answered in
    due_viewed (refusal kind c.args.self.now.state.machine (view c.args.handle) ≡ None) c.view_outcome.result c.view.result c.view_outcome.ensures
    (λ lacks. subst (λ s. refusal kind s.state.machine (view c.args.handle) ≡ None) c.self.view_is (c.view.ensures.due lacks))
