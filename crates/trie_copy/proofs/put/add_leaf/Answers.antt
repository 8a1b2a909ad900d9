use Rattle.std.proofs.Common.{suc, ap, sym, ◌∙◌}
use Rattle.trie_shape.proofs.Ones.{ones_set}
use Rattle.trie_copy.proofs.put.add_leaf.Goals as goal

pub with_more-requires-clause-count : goal.with_more-requires-clause-count
with_more-requires-clause-count g c =
    let a = c.args in
    ap suc c.requires.count ∙ sym (ones_set a.bitmap a.digit c.ranges.bitmap.fits c.requires.digit c.requires.lacks)
