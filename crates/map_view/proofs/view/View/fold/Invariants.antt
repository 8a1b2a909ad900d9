use Rattle.std.proofs.Common.{◌≡◌}
use Rattle.bulk_work.specs.Answers.{items_of}
use Rattle.combiner.specs.Monoids.{folded}
use Rattle.bulk_ops.specs.Meanings.{MayAnswer, Means}
use Rattle.map_view.proofs.view.View.fold.Given as goal

-- the items to come, put to those so far, are those of the view
abbrev pub invariant-loop-key : goal.invariant-loop-key
invariant-loop-key g l = record {
  next : (goal.iterator-loop-key g).can_next l.key-iterator;
  finite : (goal.iterator-loop-key g).is_finite l.key-iterator;
  callable : goal.G-IsAlwaysCallable g l.item;
  all : (i : g.row.K.Denot → g.row.V.Denot → g.row.M-Item.Denot) → Means (MayAnswer g.G.Fn l.item) i → folded (g.M.Monoid.combine l.monoid) l.all (items_of i l.key-iterator) ≡ folded (g.M.Monoid.combine l.monoid) (g.M.Monoid.unit_of l.monoid) (items_of i l.self);
}
