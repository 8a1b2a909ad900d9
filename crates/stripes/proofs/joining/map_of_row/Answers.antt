use Rattle.std.proofs.Common.{ℕ, sym, subst}
use Rattle.trie_shape.specs.Roots.{word_of}
use Rattle.trie_shape.specs.Shape.{NoneAbove, nodes}
use Rattle.trie_shape.specs.View.{tree}
use Rattle.stripes.proofs.joining.map_of_row.Goals as goal

pub from_root-requires-clause-newest : goal.from_root-requires-clause-newest
from_root-requires-clause-newest g c =
    let all = nodes (word_of g.K.PathKey.path_of) (tree c.in_ok-into_root.field-0) in
    subst (λ (n : ℕ). NoneAbove n all) (sym c.newest-newest.ensures) c.in_ok-into_root.ensures.newest
