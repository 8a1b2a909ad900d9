use Rattle.std.proofs.Common.{rules, ◌≡◌, None, ◌++◌, ◌∷◌, [], ◌∙◌, ap, sym, subst}
use Rattle.std.specs.Prelude.{All}
use Rattle.std.specs.Arc.{arc_value}
use Rattle.handles.specs.Machine.{freeze, refusal}
use Rattle.handles.specs.Views.{frozen_outcome}
use Rattle.worker_states.specs.Boards.{first_board}
use Rattle.core_steps.specs.Cores.{Asked, of_client}
use Rattle.worker_states.specs.WorkerValues.{IsJobOn, IsVacant}
use Rattle.core_steps.specs.JobStates.{IsWhole, job_states_of, value_of}
use Rattle.core_steps.specs.Queries.{asked, divided}
use Rattle.core_steps.specs.Steps.{IsAnswered, StepsTo}
use Rattle.core_steps.specs.declared.job_state.JobState.{JobState}
use Rattle.core_steps.specs.declared.outcome.Outcome.TheVariants.{Frozen}
use Rattle.core_steps.proofs.KeptBoards.{cuts_within}
use Rattle.core_steps.proofs.WholeSteps.{refusal_whole}
use Rattle.core_steps.proofs.OpenSteps.{pushed_whole}
use Rattle.core_steps.proofs.DueSteps.{due_refused}
use Rattle.core_steps.proofs.cores.Core.freeze.Goals as goal

pub returns-in-Err-clause-step : goal.returns-in-Err-clause-step
returns-in-Err-clause-step g c =
    let R = g.K.Ord.cmp in
    let path = g.K.PathKey.path_of in
    let kind = asked R g.V.PartialEq.eq g.Q.Asks.target_of g.Q.Asks.answered in
    let cuts = cuts_within path c.law_of_cuts.ensures.divide in
    let t = c.self.inside in
    let ps = t.job_states.items in
    let division = divided path g.Q.Bulk.decides in
    let asks : Asked g.row.K.Denot g.row.V.Denot g.row.Q.Denot = of_client (freeze c.args.handle c.args.query.value) in
    let answered = (refusal_whole R path g.Q.Bulk.answers g.Q.Bulk.ready kind g.Q.Bulk.decides cuts frozen_outcome t.table c.freeze.new.self (job_states_of ps) t.workers t.grain (freeze c.args.handle c.args.query.value) c.in-Err.refusal c.in-Err.ensures.step c.self.invariant).0 in
    let same : c.reserve.new.self.items ≡ ps = search rules in
    subst (λ s. IsAnswered kind division s asks c.refused.result (value_of c.freeze.new.self (job_states_of c.reserve.new.self.items) t.workers t.grain)) c.self.view_is
    (subst (λ qs. IsAnswered kind division (value_of t.table (job_states_of ps) t.workers t.grain) asks c.refused.result (value_of c.freeze.new.self (job_states_of qs) t.workers t.grain)) (sym same)
    (subst (λ r. IsAnswered kind division (value_of t.table (job_states_of ps) t.workers t.grain) asks r (value_of c.freeze.new.self (job_states_of ps) t.workers t.grain)) (sym c.refused.ensures) answered))

pub invariant_of-self-in-Err : goal.invariant_of-self-in-Err
invariant_of-self-in-Err g c =
    let R = g.K.Ord.cmp in
    let path = g.K.PathKey.path_of in
    let kind = asked R g.V.PartialEq.eq g.Q.Asks.target_of g.Q.Asks.answered in
    let cuts = cuts_within path c.law_of_cuts.ensures.divide in
    let t = c.self.inside in
    let ps = t.job_states.items in
    let same : c.reserve.new.self.items ≡ ps = search rules in
    subst (λ qs. IsWhole R path g.Q.Bulk.answers g.Q.Bulk.ready c.freeze.new.self (job_states_of qs) t.workers t.grain) (sym same)
    (refusal_whole R path g.Q.Bulk.answers g.Q.Bulk.ready kind g.Q.Bulk.decides cuts frozen_outcome t.table c.freeze.new.self (job_states_of ps) t.workers t.grain (freeze c.args.handle c.args.query.value) c.in-Err.refusal c.in-Err.ensures.step c.self.invariant).1

pub begin_whole-requires-clause-worker_states : goal.begin_whole-requires-clause-worker_states
begin_whole-requires-clause-worker_states g c =
    subst (λ q. All (IsVacant (g.Q.Bulk.answers q)) c.in-Ok.board) (sym c.in-Ok.ensures.query ∙ sym c.deref-2.ensures) c.in-Ok.ensures.vacant

pub invariant_of-self-2 : goal.invariant_of-self-2
invariant_of-self-2 g c =
    let R = g.K.Ord.cmp in
    let path = g.K.PathKey.path_of in
    let kind = asked R g.V.PartialEq.eq g.Q.Asks.target_of g.Q.Asks.answered in
    let cuts = cuts_within path c.law_of_cuts.ensures.divide in
    let t = c.self.inside in
    let ps = t.job_states.items in
    let p : JobState g.row.K.Denot g.row.V.Denot g.row.Q.Denot g.row.Q-Part.Denot = record { number = c.in-Ok-freeze.opened.0; query = c.in-Ok.kept; board = c.begin_whole.new.vacant } in
    let same : arc_value c.in-Ok.kept ≡ c.args.query.value = search rules in
    let longer : c.push_reserved.new.self.items ≡ ps ++ p ∷ [] = search rules in
    let job = subst (λ q. IsJobOn R path (g.Q.Bulk.answers q) c.in-Ok-freeze.opened.1 c.begin_whole.new.vacant) c.deref-2.ensures c.begin_whole.ensures.job in
    let pushed = pushed_whole R path g.Q.Bulk.answers g.Q.Bulk.ready kind g.Q.Bulk.decides cuts t.table ps t.workers t.grain c.self.invariant c.freeze.new.self c.args.handle c.args.query.value c.in-Ok-freeze.opened.1 p c.in-Ok-freeze.ensures.step same c.requires job (c.begin_whole.ensures.first ∙ ap first_board c.in-Ok.ensures.count) in
    subst (λ qs. IsWhole R path g.Q.Bulk.answers g.Q.Bulk.ready c.freeze.new.self (job_states_of qs) t.workers t.grain) (sym longer) pushed.1

pub returns-clause-step : goal.returns-clause-step
returns-clause-step g c =
    let R = g.K.Ord.cmp in
    let path = g.K.PathKey.path_of in
    let kind = asked R g.V.PartialEq.eq g.Q.Asks.target_of g.Q.Asks.answered in
    let cuts = cuts_within path c.law_of_cuts.ensures.divide in
    let t = c.self.inside in
    let ps = t.job_states.items in
    let division = divided path g.Q.Bulk.decides in
    let asks : Asked g.row.K.Denot g.row.V.Denot g.row.Q.Denot = of_client (freeze c.args.handle c.args.query.value) in
    let p : JobState g.row.K.Denot g.row.V.Denot g.row.Q.Denot g.row.Q-Part.Denot = record { number = c.in-Ok-freeze.opened.0; query = c.in-Ok.kept; board = c.begin_whole.new.vacant } in
    let same : arc_value c.in-Ok.kept ≡ c.args.query.value = search rules in
    let longer : c.push_reserved.new.self.items ≡ ps ++ p ∷ [] = search rules in
    let job = subst (λ q. IsJobOn R path (g.Q.Bulk.answers q) c.in-Ok-freeze.opened.1 c.begin_whole.new.vacant) c.deref-2.ensures c.begin_whole.ensures.job in
    let pushed = pushed_whole R path g.Q.Bulk.answers g.Q.Bulk.ready kind g.Q.Bulk.decides cuts t.table ps t.workers t.grain c.self.invariant c.freeze.new.self c.args.handle c.args.query.value c.in-Ok-freeze.opened.1 p c.in-Ok-freeze.ensures.step same c.requires job (c.begin_whole.ensures.first ∙ ap first_board c.in-Ok.ensures.count) in
    subst (λ s. StepsTo kind division s asks (Frozen c.in-Ok-freeze.opened.0) (value_of c.freeze.new.self (job_states_of c.push_reserved.new.self.items) t.workers t.grain)) c.self.view_is
    (subst (λ qs. StepsTo kind division (value_of t.table (job_states_of ps) t.workers t.grain) asks (Frozen c.in-Ok-freeze.opened.0) (value_of c.freeze.new.self (job_states_of qs) t.workers t.grain)) (sym longer) pushed.0)

pub returns-in-Err-clause-due : goal.returns-in-Err-clause-due
returns-in-Err-clause-due g c =
    let kind = asked g.K.Ord.cmp g.V.PartialEq.eq g.Q.Asks.target_of g.Q.Asks.answered in
    due_refused (refusal kind c.args.self.now.state.machine (freeze c.args.handle c.args.query.value) ≡ None) c.refused.result c.in-Err.refusal c.refused.ensures
    (λ lacks. subst (λ s. refusal kind s.state.machine (freeze c.args.handle c.args.query.value) ≡ None) c.self.view_is (c.in-Err.ensures.due lacks))
