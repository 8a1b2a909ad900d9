use Rattle.std.proofs.Common.{◌+◌, length, map}
use Rattle.group_counts.specs.Counts.{row_pair}
use Rattle.group_counts.specs.Joining.{Joining}
use Rattle.group_counts.proofs.joining.joined_rows.Given as goal

abbrev pub invariant-loop-rows : goal.invariant-loop-rows
invariant-loop-rows g l = Joining g.G.Ord.cmp (map row_pair l.fn.first) (map row_pair l.fn.second) (map row_pair l.rows.items) (map row_pair l.left) (map row_pair l.right)

abbrev pub decreases-loop-rows : goal.decreases-loop-rows
decreases-loop-rows g l = length l.left + length l.right
