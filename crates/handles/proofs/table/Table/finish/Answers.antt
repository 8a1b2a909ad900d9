use Rattle.std.proofs.Common.{◌≡◌, ◌+◌, true, ap, sym, subst, refl, ◌∙◌}
use Rattle.std.specs.Prelude.{Result, Ok, Err, IfOk, Some, is_some}
use Rattle.std.specs.Ordering.{nat_cmp}
use Rattle.versions.specs.Map.{value_at, without}
use Rattle.versions.specs.declared.refusal.Refusal.{Refusal}
use Rattle.bulk_work.specs.Answers as plain
use Rattle.bulk_work.specs.Summaries.{summary_of}
use Rattle.bulk_work.specs.declared.asks.Answer.{Answer}
use Rattle.handles.specs.Jobs.{live_with_answer}
use Rattle.handles.specs.Machine.{State, finish, is_entry, job_at}
use Rattle.handles.specs.Views.{IsStep, finished_outcome, machine}
use Rattle.handles.proofs.Finished.{live_with_answer-is, succeeds}
use Rattle.handles.proofs.Refusals.{end_has_job, end_is_no_entry, end_is_no_job}
use Rattle.handles.proofs.Whole.{Whole, counted_none, counted_one, whole_closed, whole_same}
use Rattle.handles.proofs.table.Table.finish.Goals as goal
use Rattle.handles.proofs.table.Table.finish.Goals.{in-Some, in-None}

pub invariant_of-self : goal.invariant_of-self
invariant_of-self g c =
    let kind = machine g.K.Ord.cmp g.V.PartialEq.eq g.Q.Asks.target_of g.Q.Asks.answered in
    let s : State g.row.K.Denot g.row.V.Denot g.row.Q.Denot = c.args.self.now in
    let t = c.self.inside in
    let m = c.match-refusal_of.self-inside in
    elim c.match-refusal_of.branch [
      | in-Some w ↦
          let no = end_is_no_entry kind s c.args.job w.in-Some.refusal (sym w.in-Some.ensures) in
          let count = counted_none c.match-refusal_of.answer (Err w.in-Some.refusal) m.entries t.entries c.counted.new.entries c.counted.ensures.count w.answer-is (ap (λ x. x.entries) w.self-inside-is) no in
          let kept = whole_same g.Q.Asks.target_of t.limits.pairs t.limits.entries t.places t.jobs t.entries c.counted.new.entries c.self.invariant count in
          subst (λ x. Whole g.Q.Asks.target_of x.limits.pairs x.limits.entries x.places x.jobs c.counted.new.entries) (sym w.self-inside-is) kept
      | in-None w ↦
          let there : is_some (value_at nat_cmp t.jobs.jobs c.args.job) ≡ true = subst (λ (x : State g.row.K.Denot g.row.V.Denot g.row.Q.Denot). is_some (job_at x c.args.job) ≡ true) (sym c.self.view_is) (end_has_job kind s c.args.job (sym w.in-None.ensures)) in
          let made = w.close_job-answer.ensures in
          let done = succeeds (value_at nat_cmp t.jobs.jobs c.args.job) _ w.close_job-answer.result there made.done made.closed in
          let count = counted_one c.match-refusal_of.answer (Ok done.0) m.entries t.entries c.counted.new.entries c.counted.ensures.count (w.answer-is ∙ done.1) (ap (λ x. x.entries) w.self-inside-is) refl in
          let kept = whole_closed g.Q.Asks.target_of t.limits.pairs t.limits.entries t.places w.close_job-answer.new.places t.jobs w.close_job-answer.new.jobs c.args.job t.entries c.counted.new.entries c.self.invariant there done.2.closed done.2.kept made.limit made.issued count in
          subst (λ x. Whole g.Q.Asks.target_of x.limits.pairs x.limits.entries x.places x.jobs c.counted.new.entries) (sym w.self-inside-is) kept
    ]

pub returns-clause-step : goal.returns-clause-step
returns-clause-step g c =
    let kind = machine g.K.Ord.cmp g.V.PartialEq.eq g.Q.Asks.target_of g.Q.Asks.answered in
    let s : State g.row.K.Denot g.row.V.Denot g.row.Q.Denot = c.args.self.now in
    let t = c.self.inside in
    let m = c.match-refusal_of.self-inside in
    let after : State g.row.K.Denot g.row.V.Denot g.row.Q.Denot = record { limits = m.limits; live = m.places.live; jobs = m.jobs.jobs; next = m.jobs.next; entries = c.counted.new.entries } in
    elim c.match-refusal_of.branch [
      | in-Some w ↦
          let is = end_is_no_job kind s c.args.job w.in-Some.refusal (sym w.in-Some.ensures) in
          let count = counted_none c.match-refusal_of.answer (Err w.in-Some.refusal) m.entries t.entries c.counted.new.entries c.counted.ensures.count w.answer-is (ap (λ x. x.entries) w.self-inside-is) (ap is_entry is) in
          let live = ap (λ x. x.places.live) w.self-inside-is ∙ ap (λ (x : State g.row.K.Denot g.row.V.Denot g.row.Q.Denot). x.live) c.self.view_is in
          let jobs = ap (λ x. x.jobs.jobs) w.self-inside-is ∙ ap (λ (x : State g.row.K.Denot g.row.V.Denot g.row.Q.Denot). x.jobs) c.self.view_is in
          let next = ap (λ x. x.jobs.next) w.self-inside-is ∙ ap (λ (x : State g.row.K.Denot g.row.V.Denot g.row.Q.Denot). x.next) c.self.view_is in
          let limits = ap (λ x. x.limits) w.self-inside-is ∙ ap (λ (x : State g.row.K.Denot g.row.V.Denot g.row.Q.Denot). x.limits) c.self.view_is in
          let entries = count ∙ ap (λ (x : State g.row.K.Denot g.row.V.Denot g.row.Q.Denot). x.entries) c.self.view_is in
          subst (λ r. IsStep kind s (finish c.args.job) finished_outcome r after) (sym (c.counted.ensures.same ∙ w.answer-is ∙ (λ i. Err (is i)))) (
            sym w.in-Some.ensures ∙ (λ i. Some (is i)),
            λ i. record { limits = limits i; live = live i; jobs = jobs i; next = next i; entries = entries i },
          )
      | in-None w ↦
          let there : is_some (value_at nat_cmp t.jobs.jobs c.args.job) ≡ true = subst (λ (x : State g.row.K.Denot g.row.V.Denot g.row.Q.Denot). is_some (job_at x c.args.job) ≡ true) (sym c.self.view_is) (end_has_job kind s c.args.job (sym w.in-None.ensures)) in
          let made = w.close_job-answer.ensures in
          let done = succeeds (value_at nat_cmp t.jobs.jobs c.args.job) _ w.close_job-answer.result there made.done made.closed in
          let count = counted_one c.match-refusal_of.answer (Ok done.0) m.entries t.entries c.counted.new.entries c.counted.ensures.count (w.answer-is ∙ done.1) (ap (λ x. x.entries) w.self-inside-is) refl in
          let live = ap (λ x. x.places.live) w.self-inside-is ∙ done.2.live ∙ ap (λ (x : State g.row.K.Denot g.row.V.Denot g.row.Q.Denot). live_with_answer x.live (g.Q.Asks.target_of done.2.job.query) done.2.answer) c.self.view_is ∙ live_with_answer-is kind (λ a. refl) s (g.Q.Asks.target_of done.2.job.query) done.2.answer in
          let jobs = ap (λ x. x.jobs.jobs) w.self-inside-is ∙ done.2.closed ∙ ap (λ (x : State g.row.K.Denot g.row.V.Denot g.row.Q.Denot). without nat_cmp x.jobs c.args.job) c.self.view_is in
          let next = ap (λ x. x.jobs.next) w.self-inside-is ∙ done.2.kept ∙ ap (λ (x : State g.row.K.Denot g.row.V.Denot g.row.Q.Denot). x.next) c.self.view_is in
          let limits = ap (λ x. x.limits) w.self-inside-is ∙ ap (λ (x : State g.row.K.Denot g.row.V.Denot g.row.Q.Denot). x.limits) c.self.view_is in
          let entries = count ∙ ap (λ (x : State g.row.K.Denot g.row.V.Denot g.row.Q.Denot). x.entries + 1) c.self.view_is in
          subst (λ r. IsStep kind s (finish c.args.job) finished_outcome r after) (sym (c.counted.ensures.same ∙ w.answer-is ∙ done.1)) (
            sym w.in-None.ensures,
            record {
              job = done.2.job;
              answer = done.2.answer;
              named = ap (λ (x : State g.row.K.Denot g.row.V.Denot g.row.Q.Denot). job_at x c.args.job) (sym c.self.view_is) ∙ done.2.named;
              is_answer = done.2.is_answer;
              told = done.2.is_told;
              left = λ i. record { limits = limits i; live = live i; jobs = jobs i; next = next i; entries = entries i };
            },
          )
    ]

pub returns-clause-told : goal.returns-clause-told
returns-clause-told g c =
    let Tells = λ (r : Result (Answer g.row.K.Denot g.row.V.Denot g.row.Q-Item.Denot) Refusal). IfOk r (λ answer. summary_of answer ≡ plain.summary (g.Q.Asks.answer_of c.args.part)) in
    elim c.match-refusal_of.branch [
      | in-Some w ↦ subst Tells (sym (c.counted.ensures.same ∙ w.answer-is)) tt
      | in-None w ↦ subst Tells (sym (c.counted.ensures.same ∙ w.answer-is)) w.close_job-answer.ensures.told
    ]
