use Rattle.std.proofs.Common.{◌≡◌, ◌++◌, ◌-◌, ◌≤◌}
use Rattle.top_pairs.specs.Merges.{highest}
use Rattle.top_pairs.proofs.ranked.merged.Given as goal

-- those so far and the highest of what is left are the highest of both
abbrev pub invariant-loop : goal.invariant-loop
invariant-loop g l = record {
  within : l.counter ≤ l.most;
  told : l.both.items ++ highest g.N.Ord.cmp (l.most - l.counter) l.first l.second ≡ highest g.N.Ord.cmp l.most l.left l.right;
}
