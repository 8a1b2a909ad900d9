use Rattle.std.proofs.Common.{map, ap, ◌∙◌, arith}
use Rattle.trie_shape.specs.View.{pair_values}
use Rattle.iter.specs.Subtries.{nodes_of_all, pairs_of_all}
use Rattle.iter.specs.Stacks.{subtries}
use Rattle.iter.specs.Walks.{Walk}
use Rattle.iter.proofs.Stacks.{no_pairs_no_subtries, empty_right}
use Rattle.iter.proofs.walk.Pairs.entered.Goals as goal

pub returns : goal.returns
returns g c =
    λ none.
    let a = c.self.inside.ahead in
    let leaf = map pair_values c.self.inside.leaf.now in
    let pairs = empty_right leaf (pairs_of_all (subtries a)) (ap (λ (w : Walk _ _). w.rest) c.self.view_is ∙ none) in
    let trees = no_pairs_no_subtries g.K.Ord.cmp g.K.PathKey.path_of a c.self.invariant.0 pairs in
    omega (arith, ap nodes_of_all trees, ap (λ (w : Walk _ _). w.nodes) c.self.view_is)
