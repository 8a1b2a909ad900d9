use Rattle.trie_shape.specs.Counts.{node_count}
use Rattle.trie_shape.specs.View.{tree}
use Rattle.splitter.specs.Places.{IsPlace}
use Rattle.splitter.proofs.piece.Piece.cut_spot.Given as goal

-- the pairs of the piece stand there
abbrev pub invariant-loop-spot : goal.invariant-loop-spot
invariant-loop-spot g l = IsPlace g.K.Ord.cmp g.K.PathKey.path_of l.self.map l.self.interval (tree l.spot.branch.now) l.spot.bitmap l.spot.level l.spot.base l.spot.from l.spot.to

abbrev pub decreases-loop-spot : goal.decreases-loop-spot
decreases-loop-spot g l = node_count (tree l.spot.branch.now)
