use Rattle.std.proofs.Common.{◌-◌, ◌≤◌, drop, length, take}
use Rattle.std.specs.List.{AllByRecursion}
use Rattle.top_pairs.specs.Ranks.{AtLeast, Falls}
use Rattle.top_pairs.specs.Merges.{Below}
use Rattle.top_pairs.proofs.ranked.place_of.Given as goal

-- all before low score as high or higher, and all from high on score lower
abbrev pub invariant-loop-low : goal.invariant-loop-low
invariant-loop-low g l = record {
  ordered : l.low ≤ l.high;
  bound : l.high ≤ length l.items;
  before : Falls g.N.Ord.cmp l.items → AllByRecursion (AtLeast g.N.Ord.cmp l.score) (take l.low l.items);
  behind : Falls g.N.Ord.cmp l.items → AllByRecursion (Below g.N.Ord.cmp l.score) (drop l.high l.items);
}

abbrev pub decreases-loop-low : goal.decreases-loop-low
decreases-loop-low g l = l.high - l.low
