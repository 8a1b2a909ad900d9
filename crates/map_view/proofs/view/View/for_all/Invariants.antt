use Rattle.std.proofs.Common.{◌≡◌, Bool}
use Rattle.std.specs.List.{list_all}
use Rattle.bulk_work.specs.Answers.{passes}
use Rattle.bulk_ops.specs.Meanings.{MayAnswer, Means}
use Rattle.map_view.proofs.view.View.for_all.Given as goal

-- each so far passes
abbrev pub invariant-loop-key : goal.invariant-loop-key
invariant-loop-key g l = record {
  next : (goal.iterator-loop-key g).can_next l.key-iterator;
  finite : (goal.iterator-loop-key g).is_finite l.key-iterator;
  callable : goal.F-IsAlwaysCallable g l.test;
  all : (p : g.row.K.Denot → g.row.V.Denot → Bool) → Means (MayAnswer g.F.Fn l.test) p → list_all (passes p) l.key-iterator ≡ list_all (passes p) l.self;
}
