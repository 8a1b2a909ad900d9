use Rattle.std.proofs.Common.{◌+◌, ◌≤◌, Bool, false, length}
use Rattle.bulk_ops.specs.Meanings.{MayAnswer, Means}
use Rattle.map_view.specs.Questions.{failing}
use Rattle.versions.specs.Map.{IsMap}
use Rattle.trie_map.proofs.Gone.{AreGone}
use Rattle.trie_map.proofs.trie_map.TrieMap.remove_all_failing.Given as goal

-- those so far that are gone, and those to come that fail, are no more than those of the view that fail
abbrev pub invariant-loop-key : goal.invariant-loop-key
invariant-loop-key g l = record {
  next : (goal.iterator-loop-key g).can_next l.key-iterator;
  finite : (goal.iterator-loop-key g).is_finite l.key-iterator;
  callable : goal.F-IsAlwaysCallable g l.test;
  few : l.removed + length l.key-iterator ≤ length l.view;
  gone : (p : g.row.K.Denot → g.row.V.Denot → Bool) → Means (MayAnswer g.F.Fn l.test) p → l.removed + length (failing p l.key-iterator) ≤ length (failing p l.view);
  sorted : IsMap g.K.Ord.cmp l.view;
  failed : AreGone g.K.Ord.cmp l.view g.P.Keeps.holds (λ k v. MayAnswer g.F.Fn l.test k v false) l.key-iterator l.removed;
}
