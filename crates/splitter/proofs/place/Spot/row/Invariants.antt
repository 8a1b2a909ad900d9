use Rattle.std.proofs.Common.{◌≡◌, map}
use Rattle.iter.specs.Subtries.{children_between}
use Rattle.trie_shape.specs.View.{tree}
use Rattle.splitter.proofs.place.Spot.row.Given as goal

-- the children so far
abbrev pub invariant-loop-n : goal.invariant-loop-n
invariant-loop-n g l = map tree l.row.items ≡ children_between (tree l.self.branch.now) l.self.from l.n
