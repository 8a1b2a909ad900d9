use Rattle.std.proofs.Common.{◌≡◌}
use Rattle.keys.specs.Order.{bytes_cmp}
use Rattle.trie_shape.specs.Listings.{gathered}
use Rattle.audit.proofs.values.sorted_of.Given as goal

-- the pairs so far, with those that are left, are the map
abbrev pub invariant-loop-key : goal.invariant-loop-key
invariant-loop-key l = record {
  next : goal.iterator-loop-key.can_next l.key-iterator;
  finite : goal.iterator-loop-key.is_finite l.key-iterator;
  listed : gathered bytes_cmp l.sorted.entries l.key-iterator.rest ≡ l.fn.map.entries;
}
