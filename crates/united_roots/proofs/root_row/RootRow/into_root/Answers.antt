use Rattle.std.proofs.Common.{length, map, sym, ap, ◌∙◌, subst}
use Rattle.trie_shape.specs.Roots.{word_of}
use Rattle.trie_shape.specs.Shape.{NoneAbove, nodes}
use Rattle.trie_shape.specs.Tree.{branch, trees}
use Rattle.trie_shape.specs.View.{tree}
use Rattle.trie_shape.proofs.Views.{on_ok}
use Rattle.united_roots.specs.Rows.{United}
use Rattle.united_roots.proofs.Taking.{row_counted}
use Rattle.united_roots.proofs.root_row.RootRow.into_root.Goals as goal

pub make_branch-requires : goal.make_branch-requires
make_branch-requires g c =
    let r = c.self.inside in
    ap length c.as_mut_slice.ensures.value ∙ row_counted r.newest.0 r.pairs r.bitmap r.children.items c.self.invariant.0.fits

pub returns-clause-newest : goal.returns-clause-newest
returns-clause-newest g c =
    let word = word_of g.K.PathKey.path_of in
    let r = c.self.inside in
    let none = subst (λ (h : United _ _). NoneAbove h.newest (nodes word (branch r.newest.0 r.pairs r.bitmap (trees (map tree r.children.items))))) c.self.view_is c.self.invariant.1 in
    let row = subst (λ ns. NoneAbove c.args.self.newest (nodes word (branch r.newest.0 r.pairs r.bitmap (trees (map tree ns))))) (sym c.as_mut_slice.ensures.value) none in
    on_ok c.make_branch.result _ _ (λ n made. subst (λ t. NoneAbove c.args.self.newest (nodes word t)) (sym made) row) c.make_branch.ensures
