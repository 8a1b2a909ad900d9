use Rattle.std.proofs.Common.{◌≡◌, ◌+◌, ◌≤◌, Bool, length}
use Rattle.bulk_work.specs.Answers.{passing}
use Rattle.bulk_ops.specs.Meanings.{MayAnswer, Means}
use Rattle.map_view.proofs.view.View.count.Given as goal

-- those so far that pass, and those to come that do, are those of the view
abbrev pub invariant-loop-key : goal.invariant-loop-key
invariant-loop-key g l = record {
  next : (goal.iterator-loop-key g).can_next l.key-iterator;
  finite : (goal.iterator-loop-key g).is_finite l.key-iterator;
  callable : goal.F-IsAlwaysCallable g l.test;
  few : l.count + length l.key-iterator ≤ length l.self;
  count : (p : g.row.K.Denot → g.row.V.Denot → Bool) → Means (MayAnswer g.F.Fn l.test) p → l.count + length (passing p l.key-iterator) ≡ length (passing p l.self);
}
