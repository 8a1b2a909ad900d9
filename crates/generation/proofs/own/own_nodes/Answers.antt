use Rattle.std.proofs.Common.{sym, ◌∙◌, []}
use Rattle.trie_shape.specs.Roots.{word_of}
use Rattle.trie_shape.specs.View.{tree}
use Rattle.generation.proofs.Walk.{own_nodes_below}
use Rattle.generation.proofs.own.own_nodes.Goals as goal

pub returns-clause-root : goal.returns-clause-root
returns-clause-root g c is = c.count_own.ensures ∙ sym (own_nodes_below (word_of g.K.PathKey.path_of) c.args.own.0 [] (tree c.args.node.now) is.fits (c.root_has_few_nodes.ensures.pairs (tree c.args.node.now) is))
