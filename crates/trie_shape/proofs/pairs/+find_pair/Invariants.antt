use Rattle.std.proofs.Common.{length}
use Rattle.trie_shape.proofs.pairs.+find_pair.Given as goal

abbrev pub decreases-find_pair : goal.decreases-find_pair
decreases-find_pair g l = length l.pairs.now
