use Rattle.std.proofs.Common.{◌≡◌, ◌&&◌, not, nat_lt, is_none, is_some, subst}
use Rattle.std.specs.Prelude.{IfSome, Some, None, option_map}
use Rattle.std.specs.Ordering.{nat_cmp}
use Rattle.versions.specs.Map.{value_at}
use Rattle.core_steps.specs.Parts.{part_at}
use Rattle.handles.specs.Machine.{Job, job_at}
use Rattle.core_steps.specs.Cores.{worked_part}
use Rattle.core_steps.specs.JobStates.{IsPlaceOf, job_states_of}
use Rattle.core_steps.specs.Queries.{asked, divided}
use Rattle.core_steps.proofs.KeptBoards.{cuts_within}
use Rattle.core_steps.proofs.JobStateLemmas.{parts_absent}
use Rattle.core_steps.proofs.OpenSteps.{part_none, part_shown, part_some}
use Rattle.core_steps.proofs.cores.Core.part.Goals as goal

pub returns-in-Some-clause-none : goal.returns-in-Some-clause-none
returns-in-Some-clause-none g c =
    let R = g.K.Ord.cmp in
    let path = g.K.PathKey.path_of in
    let kind = asked R g.V.PartialEq.eq g.Q.Asks.target_of g.Q.Asks.answered in
    let cuts = cuts_within path c.law_of_cuts.ensures.divide in
    let t = c.self.inside in
    let ps = t.job_states.items in
    let lies = subst (λ qs. IsPlaceOf qs c.args.job c.in-Some.place) c.deref.ensures.value c.in-Some.ensures.some in
    subst (λ s. is_none c.part.result ≡ not (is_some (job_at s.state.machine c.args.job) && nat_lt c.args.worker s.state.workers)) c.self.view_is
    (part_none R path g.Q.Bulk.answers g.Q.Bulk.ready kind g.Q.Bulk.decides cuts t.table ps t.workers t.grain c.self.invariant c.args.job c.in-Some.place lies
    (λ p. p.now) c.part.result c.index.result.now c.args.worker c.index.ensures c.part.ensures)

pub returns-in-None-clause-shown : goal.returns-in-None-clause-shown
returns-in-None-clause-shown g c =
    let ps = c.self.inside.job_states.items in
    let none = subst (λ qs. value_at nat_cmp (job_states_of qs) c.args.job ≡ None) c.deref.ensures.value c.in-None.ensures.none in
    subst (λ s. None ≡ part_at s.parts c.args.job c.args.worker) c.self.view_is (parts_absent (job_states_of ps) c.args.job c.args.worker none)

pub returns-in-Some-clause-shown : goal.returns-in-Some-clause-shown
returns-in-Some-clause-shown g c =
    let R = g.K.Ord.cmp in
    let path = g.K.PathKey.path_of in
    let kind = asked R g.V.PartialEq.eq g.Q.Asks.target_of g.Q.Asks.answered in
    let cuts = cuts_within path c.law_of_cuts.ensures.divide in
    let t = c.self.inside in
    let ps = t.job_states.items in
    let lies = subst (λ qs. IsPlaceOf qs c.args.job c.in-Some.place) c.deref.ensures.value c.in-Some.ensures.some in
    subst (λ s. option_map (λ p. p.now) c.part.result ≡ part_at s.parts c.args.job c.args.worker) c.self.view_is
    (part_shown R path g.Q.Bulk.answers g.Q.Bulk.ready kind g.Q.Bulk.decides cuts t.table ps t.workers t.grain c.self.invariant c.args.job c.in-Some.place lies
    (λ p. p.now) c.part.result c.index.result.now c.args.worker c.index.ensures c.part.ensures)

pub returns-in-Some-clause-some : goal.returns-in-Some-clause-some
returns-in-Some-clause-some g c =
    let R = g.K.Ord.cmp in
    let path = g.K.PathKey.path_of in
    let kind = asked R g.V.PartialEq.eq g.Q.Asks.target_of g.Q.Asks.answered in
    let cuts = cuts_within path c.law_of_cuts.ensures.divide in
    let t = c.self.inside in
    let ps = t.job_states.items in
    let lies = subst (λ qs. IsPlaceOf qs c.args.job c.in-Some.place) c.deref.ensures.value c.in-Some.ensures.some in
    subst (λ s. IfSome c.part.result (λ part. (asking : Job g.row.K.Denot g.row.V.Denot g.row.Q.Denot) → job_at s.state.machine c.args.job ≡ Some asking → g.Q.Bulk.answers asking.query (worked_part (divided path g.Q.Bulk.decides) s.state c.args.job c.args.worker) part.now)) c.self.view_is
    (part_some R path g.Q.Bulk.answers g.Q.Bulk.ready kind g.Q.Bulk.decides cuts t.table ps t.workers t.grain c.self.invariant c.args.job c.in-Some.place lies
    (λ p. p.now) c.part.result c.index.result.now c.args.worker c.index.ensures c.part.ensures)
