use Rattle.std.proofs.Common.{◌++◌, Some, length, map, sym, ap, ◌∙◌, arith}
use Rattle.std.proofs.lemmas.List.{length-map}
use Rattle.trie_shape.specs.Tree.{entries}
use Rattle.trie_shape.specs.View.{pair_values, tree}
use Rattle.iter.specs.Bunches.{held}
use Rattle.iter.proofs.Bunches.{pairs_opened}
use Rattle.iter.proofs.bunch.push_subtrie.Goals as goal

pub push_pairs-requires : goal.push_pairs-requires
push_pairs-requires g c =
    omega (arith, ap (λ u. length (entries u)) c.in-Pairs.ensures, length-map c.in-Pairs.pairs.now pair_values, c.requires.room)

pub push_children-requires : goal.push_children-requires
push_children-requires g c =
    omega (arith, ap length (pairs_opened (tree c.args.node.now) c.in-Branch.below c.in-Branch.ensures), c.requires.room)

pub returns-in-Branch : goal.returns-in-Branch
returns-in-Branch g c =
    let pairs = pairs_opened (tree c.args.node.now) c.in-Branch.below c.in-Branch.ensures in
    c.push_children.ensures ∙ ap (λ ps. map held c.args.bunch.now.items ++ map Some ps) (sym pairs)
