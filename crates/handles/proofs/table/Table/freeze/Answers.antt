use Rattle.std.proofs.Common.{◌≤◌, ap, refl, sym, subst}
use Rattle.std.specs.Prelude.{Err}
use Rattle.handles.specs.Jobs.{IsPlace}
use Rattle.handles.specs.Machine.{State, freeze, room}
use Rattle.handles.specs.Views.{machine}
use Rattle.handles.proofs.Refusals.{entry_has_room, freeze_has_place, granted_has_room}
use Rattle.handles.proofs.Whole.{Whole, counted_as, whole_opened, whole_refused}
use Rattle.handles.proofs.table.Table.freeze.Goals as goal
use Rattle.handles.proofs.table.Table.freeze.Goals.{in-Some, in-None}

pub invariant_of-self : goal.invariant_of-self
invariant_of-self g c =
    let kind = machine g.K.Ord.cmp g.V.PartialEq.eq g.Q.Asks.target_of g.Q.Asks.answered in
    let s : State g.row.K.Denot g.row.V.Denot g.row.Q.Denot = c.args.self.now in
    let t = c.self.inside in
    let m = c.match-refusal_of.self-inside in
    let HasRoom = λ (x : State g.row.K.Denot g.row.V.Denot g.row.Q.Denot). 2 ≤ room x in
    elim c.match-refusal_of.branch [
      | in-Some w ↦
          let count = counted_as c.match-refusal_of.answer (Err w.in-Some.refusal) m.entries t.entries c.counted.new.entries c.counted.ensures.count w.answer-is (ap (λ x. x.entries) w.self-inside-is) in
          let kept = whole_refused g.Q.Asks.target_of t.limits.pairs t.limits.entries t.places t.jobs t.entries c.counted.new.entries w.in-Some.refusal c.self.invariant (λ entry. subst HasRoom (sym c.self.view_is) (entry_has_room kind s (freeze c.args.handle c.deref.result.now) w.in-Some.refusal refl (sym w.in-Some.ensures) entry)) count in
          subst (λ x. Whole g.Q.Asks.target_of x.limits.pairs x.limits.entries x.places x.jobs c.counted.new.entries) (sym w.self-inside-is) kept
      | in-None w ↦
          let free = subst HasRoom (sym c.self.view_is) (granted_has_room kind s (freeze c.args.handle c.deref.result.now) refl (sym w.in-None.ensures)) in
          let place = subst (λ q. IsPlace (g.Q.Asks.target_of q)) c.deref.ensures (freeze_has_place kind s c.args.handle c.deref.result.now (sym w.in-None.ensures)) in
          let count = counted_as c.match-refusal_of.answer w.open_job-answer.result m.entries t.entries c.counted.new.entries c.counted.ensures.count w.answer-is (ap (λ x. x.entries) w.self-inside-is) in
          let made = w.open_job-answer.ensures in
          let kept = whole_opened g.Q.Asks.target_of t.limits.pairs t.limits.entries t.places t.jobs w.open_job-answer.new.jobs c.args.query.value t.entries c.counted.new.entries w.open_job-answer.result c.self.invariant free place made.fits made.opened made.next made.memory made.err count in
          subst (λ x. Whole g.Q.Asks.target_of x.limits.pairs x.limits.entries x.places x.jobs c.counted.new.entries) (sym w.self-inside-is) kept
    ]
