use Rattle.std.proofs.Common.{◌≡◌, ◌+◌, ◌*◌, ◌<◌, ◌^◌, length}
use Rattle.iter.specs.Subtries.{nodes_of_all, pairs_of_all}
use Rattle.iter.specs.Stacks.{IsSound, subtries}
use Rattle.iter.proofs.ahead.Ahead.next_leaf.Given as goal

-- the pairs still to come are the same, and so is the number of nodes entered and to be entered
abbrev pub invariant-loop-node : goal.invariant-loop-node
invariant-loop-node g l = record {
  sound : IsSound g.K.Ord.cmp g.K.PathKey.path_of l.self;
  pairs : pairs_of_all (subtries l.fn.self) ≡ pairs_of_all (subtries l.self);
  nodes : l.fn.self.entered + nodes_of_all (subtries l.fn.self) < 2 ^ 64 → l.self.entered + nodes_of_all (subtries l.self) ≡ l.fn.self.entered + nodes_of_all (subtries l.fn.self);
}

-- a branch that is entered is one node less to enter, and one branch more to come back from
abbrev pub decreases-loop-node : goal.decreases-loop-node
decreases-loop-node g l = 2 * nodes_of_all (subtries l.self) + length l.self.above.items
