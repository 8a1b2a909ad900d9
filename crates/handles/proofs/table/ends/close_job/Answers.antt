use Rattle.std.proofs.Common.{rules, ◌≡◌, ◌+◌, Some, ap, sym, subst, ◌∙◌, length}
use Rattle.std.specs.Ordering.{nat_cmp}
use Rattle.versions.specs.Map.{value_at}
use Rattle.bulk_work.specs.Summaries.{MakesFor}
use Rattle.handles.specs.Machine.{Job}
use Rattle.handles.specs.Jobs.{IsPlace, job_of, live_with_made, stamps_with_made}
use Rattle.handles.proofs.JobMaps.{can_finish}
use Rattle.handles.proofs.Made.{fits_made, live_made, stamps_made}
use Rattle.handles.proofs.table.ends.close_job.Goals as goal

pub conclude-answer-requires : goal.conclude-answer-requires
conclude-answer-requires g c =
    let j = (job_of c.in-Some.open.now).1 in
    let named : value_at nat_cmp c.args.jobs.now.jobs c.args.job ≡ Some j = search rules in
    ∣ (j.frozen, subst (λ q. g.Q.Bulk.answers q j.frozen c.args.part) (sym c.deref-2.ensures) (c.requires.answers j named)) ∣₁

pub open_target-requires-clause-place : goal.open_target-requires-clause-place
open_target-requires-clause-place g c =
    let j = (job_of c.in-Some.open.now).1 in
    let named : value_at nat_cmp c.args.jobs.now.jobs c.args.job ≡ Some j = search rules in
    let can = can_finish g.Q.Asks.target_of c.args.places.now.limit c.args.jobs.now.jobs c.args.job j c.requires.can named in
    subst IsPlace (ap g.Q.Asks.target_of (sym c.deref.ensures) ∙ sym c.target-target.ensures) can.place

pub open_target-requires-clause-fits : goal.open_target-requires-clause-fits
open_target-requires-clause-fits g c =
    let j = (job_of c.in-Some.open.now).1 in
    let named : value_at nat_cmp c.args.jobs.now.jobs c.args.job ≡ Some j = search rules in
    let can = can_finish g.Q.Asks.target_of c.args.places.now.limit c.args.jobs.now.jobs c.args.job j c.requires.can named in
    let answers = subst (λ q. g.Q.Bulk.answers q j.frozen c.args.part) (sym c.deref-2.ensures) (c.requires.answers j named) in
    fits_made _ (g.Q.Asks.answer_of c.args.part) c.conclude-answer.result.1 (length j.frozen) c.args.places.now.limit c.conclude-answer.ensures.map (c.conclude-answer.ensures.few j.frozen answers) can.fits

pub returns-clause-done : goal.returns-clause-done
returns-clause-done g c =
    let j : Job g.row.K.Denot g.row.V.Denot g.row.Q.Denot = (job_of c.in-Some.open.now).1 in
    let named : value_at nat_cmp c.args.jobs.now.jobs c.args.job ≡ Some j = search rules in
    let answer = g.Q.Asks.answer_of c.args.part in
    let answers = subst (λ q. g.Q.Bulk.answers q j.frozen c.args.part) (sym c.deref-2.ensures) (c.requires.answers j named) in
    let target : c.target-target.result ≡ g.Q.Asks.target_of j.query = c.target-target.ensures ∙ ap g.Q.Asks.target_of c.deref.ensures in
    let makes = subst (λ q. MakesFor (g.Q.Asks.target_of q) answer c.conclude-answer.result.1) c.deref-2.ensures c.conclude-answer.ensures.map in
    record {
      job = j;
      answer = answer;
      named = named;
      is_answer = subst (λ q. g.Q.Asks.answered q j.frozen answer) c.deref-2.ensures (c.conclude-answer.ensures.answered j.frozen answers);
      is_told = c.conclude-answer.ensures.told;
      live = c.open_target.ensures.live ∙ (λ i. live_with_made c.args.places.now.live (target i) c.conclude-answer.result.1) ∙ live_made c.args.places.now.live (g.Q.Asks.target_of j.query) answer c.conclude-answer.result.1 makes;
      fresh = c.open_target.ensures.fresh ∙ (λ i. stamps_with_made c.args.places.now.stamps (c.args.places.now.issued + 1) (target i) c.conclude-answer.result.1) ∙ stamps_made c.args.places.now.stamps (c.args.places.now.issued + 1) (g.Q.Asks.target_of j.query) answer c.conclude-answer.result.1 makes;
      closed = c.close.ensures.jobs;
      kept = c.close.ensures.next;
    }
