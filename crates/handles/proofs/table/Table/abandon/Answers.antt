use Rattle.std.proofs.Common.{◌≡◌, true, ap, sym, subst, refl, arith}
use Rattle.std.specs.Prelude.{Ok, Err, is_some}
use Rattle.std.specs.Ordering.{nat_cmp}
use Rattle.versions.specs.Map.{value_at}
use Rattle.handles.specs.Machine.{State, job_at}
use Rattle.handles.specs.Views.{machine}
use Rattle.handles.proofs.Refusals.{end_has_job, end_is_no_entry}
use Rattle.handles.proofs.Whole.{Whole, counted_none, counted_one, whole_closed, whole_same}
use Rattle.handles.proofs.table.Table.abandon.Goals as goal
use Rattle.handles.proofs.table.Table.abandon.Goals.{in-Some, in-None}

pub invariant_of-self : goal.invariant_of-self
invariant_of-self g c =
    let kind = machine g.K.Ord.cmp g.V.PartialEq.eq g.Q.Asks.target_of g.Q.Asks.answered in
    let s : State g.row.K.Denot g.row.V.Denot g.row.Q.Denot = c.args.self.now in
    let t = c.self.inside in
    let m = c.match-refusal_of.self-inside in
    elim c.match-refusal_of.branch [
      | in-Some w ↦
          let no = end_is_no_entry kind s c.args.job w.in-Some.refusal (sym w.in-Some.ensures) in
          let count = counted_none c.match-refusal_of.answer (Err w.in-Some.refusal) m.entries t.entries c.counted.new.entries c.counted.ensures.count w.answer-is (ap (λ x. x.entries) w.self-inside-is) no in
          let kept = whole_same g.Q.Asks.target_of t.limits.pairs t.limits.entries t.places t.jobs t.entries c.counted.new.entries c.self.invariant count in
          subst (λ x. Whole g.Q.Asks.target_of x.limits.pairs x.limits.entries x.places x.jobs c.counted.new.entries) (sym w.self-inside-is) kept
      | in-None w ↦
          let there : is_some (value_at nat_cmp t.jobs.jobs c.args.job) ≡ true = subst (λ (x : State g.row.K.Denot g.row.V.Denot g.row.Q.Denot). is_some (job_at x c.args.job) ≡ true) (sym c.self.view_is) (end_has_job kind s c.args.job (sym w.in-None.ensures)) in
          let count = counted_one c.match-refusal_of.answer (Ok tt) m.entries t.entries c.counted.new.entries c.counted.ensures.count w.answer-is (ap (λ x. x.entries) w.self-inside-is) refl in
          let kept = whole_closed g.Q.Asks.target_of t.limits.pairs t.limits.entries t.places t.places t.jobs w.close.new.self c.args.job t.entries c.counted.new.entries c.self.invariant there w.close.ensures.jobs w.close.ensures.next refl (omega arith) count in
          subst (λ x. Whole g.Q.Asks.target_of x.limits.pairs x.limits.entries x.places x.jobs c.counted.new.entries) (sym w.self-inside-is) kept
    ]
