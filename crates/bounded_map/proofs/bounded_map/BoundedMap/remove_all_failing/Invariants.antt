use Rattle.std.proofs.Common.{◌+◌, ◌≤◌, length}
use Rattle.bounded_map.proofs.bounded_map.BoundedMap.remove_all_failing.Given as goal

-- the keys so far that were removed, and those to come, are no more than those of the view
abbrev pub invariant-loop-key : goal.invariant-loop-key
invariant-loop-key g l = record {
  next : (goal.iterator-loop-key g).can_next l.key-iterator;
  finite : (goal.iterator-loop-key g).is_finite l.key-iterator;
  few : l.removed + length l.key-iterator ≤ length l.view;
}
