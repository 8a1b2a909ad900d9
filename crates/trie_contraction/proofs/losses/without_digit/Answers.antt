use Rattle.trie_shape.proofs.Ones.{ones_clear}
use Rattle.trie_contraction.proofs.losses.without_digit.Goals as goal

pub returns-clause-ones : goal.returns-clause-ones
returns-clause-ones c = ones_clear c.args.bitmap c.args.digit c.ranges.bitmap.fits c.requires.digit c.requires.has
