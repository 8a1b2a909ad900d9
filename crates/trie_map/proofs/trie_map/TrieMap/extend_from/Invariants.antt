use Rattle.map_session.specs.Iterables.{KeepsFrom}
use Rattle.trie_map.proofs.trie_map.TrieMap.extend_from.Given as goal

-- each pair that is still to come keeps the rule
abbrev pub invariant-loop-key : goal.invariant-loop-key
invariant-loop-key g l = record {
  next : (goal.iterator-loop-key g).can_next l.key-iterator;
  finite : (goal.iterator-loop-key g).is_finite l.key-iterator;
  kept : KeepsFrom g.P.Keeps.holds (goal.iterator-loop-key g).next_gives l.key-iterator;
}
