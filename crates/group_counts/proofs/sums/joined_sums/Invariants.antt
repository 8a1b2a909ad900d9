use Rattle.std.specs.Prelude.{◌≡◌, ◌+◌, ◌≤◌, length}
use Rattle.trie_shape.specs.Listings.{IsListing}
use Rattle.trie_shape.specs.Order.{walked}
use Rattle.versions.specs.Map.{value_at}
use Rattle.versions.specs.declared.version.TheConstants.{MOST_PAIRS}
use Rattle.group_counts.specs.Sums.{combined}
use Rattle.group_counts.proofs.sums.joined_sums.Given as goal

-- the groups to come, combined with those so far, are those of both
abbrev pub invariant-loop-group : goal.invariant-loop-group
invariant-loop-group g l = record {
  next : (goal.iterator-loop-group g).can_next l.group-iterator;
  finite : (goal.iterator-loop-group g).is_finite l.group-iterator;
  limit : l.both.limit ≡ MOST_PAIRS;
  listing : IsListing g.G.Ord.cmp l.group-iterator;
  few : length l.both.entries + length l.group-iterator ≤ length l.first.entries + length l.second.entries;
  each : (q : g.row.G.Denot) → combined (g.M.Monoid.combine l.monoid) (g.M.Monoid.unit_of l.monoid) (value_at g.G.Ord.cmp l.group-iterator q) (value_at g.G.Ord.cmp l.both.entries q)
      ≡ combined (g.M.Monoid.combine l.monoid) (g.M.Monoid.unit_of l.monoid) (value_at g.G.Ord.cmp (walked g.G.Ord.cmp g.G.PathKey.path_of l.first.entries) q) (value_at g.G.Ord.cmp l.second.entries q);
}
