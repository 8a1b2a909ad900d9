use Rattle.std.proofs.Common.{◌≡◌, None, false, sym, subst}
use Rattle.core_steps.specs.Cores.{of_client}
use Rattle.handles.specs.Machine.{refusal}
use Rattle.handles.specs.Views.{request_of}
use Rattle.core_steps.specs.JobStates.{job_states_of, value_of}
use Rattle.core_steps.specs.Queries.{asked, divided}
use Rattle.core_steps.specs.Steps.{IsAnswered, MayFinish, takes_no_memory}
use Rattle.core_steps.proofs.KeptBoards.{cuts_within}
use Rattle.core_steps.proofs.WholeSteps.{call_whole}
use Rattle.core_steps.proofs.DueSteps.{call_may, due_called, request_takes}
use Rattle.core_steps.proofs.cores.Core.call.Goals as goal

pub invariant_of-self : goal.invariant_of-self
invariant_of-self g c =
    let kind = asked g.K.Ord.cmp g.V.PartialEq.eq g.Q.Asks.target_of g.Q.Asks.answered in
    let t = c.self.inside in
    (call_whole g.K.Ord.cmp g.K.PathKey.path_of g.Q.Bulk.answers g.Q.Bulk.ready kind g.Q.Bulk.decides (cuts_within g.K.PathKey.path_of c.law_of_cuts.ensures.divide)
    c.law_of_open_jobs.ensures t.table c.serve.new.self (job_states_of t.job_states.items) t.workers t.grain c.args.call c.serve.result c.serve.ensures.step c.self.invariant).1

pub returns-clause-step : goal.returns-clause-step
returns-clause-step g c =
    let kind = asked g.K.Ord.cmp g.V.PartialEq.eq g.Q.Asks.target_of g.Q.Asks.answered in
    let division = divided g.K.PathKey.path_of g.Q.Bulk.decides in
    let t = c.self.inside in
    let after = value_of c.serve.new.self (job_states_of t.job_states.items) t.workers t.grain in
    let answered = (call_whole g.K.Ord.cmp g.K.PathKey.path_of g.Q.Bulk.answers g.Q.Bulk.ready kind g.Q.Bulk.decides (cuts_within g.K.PathKey.path_of c.law_of_cuts.ensures.divide)
    c.law_of_open_jobs.ensures t.table c.serve.new.self (job_states_of t.job_states.items) t.workers t.grain c.args.call c.serve.result c.serve.ensures.step c.self.invariant).0 in
    subst (λ s. IsAnswered kind division s (of_client (request_of c.args.call)) c.call_outcome.result after) c.self.view_is
    (subst (λ r. IsAnswered kind division (value_of t.table (job_states_of t.job_states.items) t.workers t.grain) (of_client (request_of c.args.call)) r after) (sym c.call_outcome.ensures) answered)

pub returns-clause-due : goal.returns-clause-due
returns-clause-due g c =
    let kind = asked g.K.Ord.cmp g.V.PartialEq.eq g.Q.Asks.target_of g.Q.Asks.answered in
    due_called (refusal kind c.args.self.now.state.machine (request_of c.args.call) ≡ None) c.call_outcome.result c.serve.result c.call_outcome.ensures
    (λ lacks. subst (λ s. refusal kind s.state.machine (request_of c.args.call) ≡ None) c.self.view_is (c.serve.ensures.due lacks))

pub returns-clause-unfinished : goal.returns-clause-unfinished
returns-clause-unfinished g c =
    let division = divided g.K.PathKey.path_of g.Q.Bulk.decides in
    due_called (MayFinish division c.args.self.now.state (of_client (request_of c.args.call))) c.call_outcome.result c.serve.result c.call_outcome.ensures
    (λ lacks. call_may division c.args.self.now.state c.args.call)

pub returns-clause-memory : goal.returns-clause-memory
returns-clause-memory g c =
    let kind = asked g.K.Ord.cmp g.V.PartialEq.eq g.Q.Asks.target_of g.Q.Asks.answered in
    due_called (takes_no_memory {Q = g.row.Q.Denot} (of_client (request_of c.args.call)) ≡ false) c.call_outcome.result c.serve.result c.call_outcome.ensures
    (request_takes kind (request_of c.args.call) c.serve.result c.serve.ensures.memory)
