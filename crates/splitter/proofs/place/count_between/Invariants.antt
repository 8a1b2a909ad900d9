use Rattle.std.proofs.Common.{◌≡◌, length}
use Rattle.trie_shape.specs.View.{tree}
use Rattle.iter.specs.Subtries.{children_between, pairs_of_all}
use Rattle.splitter.proofs.place.count_between.Given as goal

-- the pairs of the children so far
abbrev pub invariant-loop-n : goal.invariant-loop-n
invariant-loop-n g l = l.total ≡ length (pairs_of_all (children_between (tree l.branch) l.from l.n))
