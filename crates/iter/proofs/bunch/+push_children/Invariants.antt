use Rattle.std.proofs.Common.{◌≡◌, ◌++◌, Some, take, map}
use Rattle.iter.specs.Bunches.{held, nodes_in, pairs_in}
use Rattle.iter.proofs.bunch.+push_children.Given as goal

-- the row of a branch has fewer nodes than one that the branch stands in
abbrev pub decreases-push_children : goal.decreases-push_children
decreases-push_children g l = nodes_in l.row.now

-- the pairs below the children so far
abbrev pub invariant-loop-child : goal.invariant-loop-child
invariant-loop-child g l = map held l.bunch.items ≡ map held l.initial.bunch.items ++ map Some (pairs_in (take l.child-index l.row))
