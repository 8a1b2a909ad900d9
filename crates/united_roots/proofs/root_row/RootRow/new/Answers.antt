use Rattle.std.proofs.Common.{map, refl, sym, subst, ap, ◌∙◌, leb, []}
use Rattle.trie_shape.specs.Roots.{IsRoot, map_of, word_of}
use Rattle.trie_shape.specs.Shape.{NoneAbove, nodes}
use Rattle.trie_shape.specs.Tree.{Tree, branch, no_trees, trees}
use Rattle.trie_shape.specs.View.{tree}
use Rattle.trie_shape.proofs.Empty.{empty_is_root, map_of-empty}
use Rattle.trie_merging.proofs.StampTests.{pass_listed, pass_none_above}
use Rattle.united_roots.proofs.root_row.RootRow.new.Goals as goal

pub invariant_of-result : goal.invariant_of-result
invariant_of-result g c =
    let R = g.K.Ord.cmp in
    let path = g.K.PathKey.path_of in
    let empty : Tree g.row.K.Denot g.row.V.Denot = branch 0 0 0 no_trees in
    let none : NoneAbove 0 (nodes (word_of path) empty) = pass_none_above 0 (nodes (word_of path) empty) (pass_listed R path (λ s. leb s 0) [] empty (refl, tt)) in
    subst (λ xs. IsRoot R path (branch 0 0 0 (trees (map tree xs))) × NoneAbove 0 (nodes (word_of path) (branch 0 0 0 (trees (map tree xs))))) (sym c.in_ok-with_capacity.ensures.items) (empty_is_root R path 0, none)

pub returns-clause-entries : goal.returns-clause-entries
returns-clause-entries g c = ap (λ xs. map_of g.K.Ord.cmp (branch 0 0 0 (trees (map tree xs)))) c.in_ok-with_capacity.ensures.items ∙ map_of-empty g.K.Ord.cmp g.K.PathKey.path_of 0
