use Rattle.std.proofs.Common.{map, length, ap, ◌∙◌, subst}
use Rattle.trie_shape.specs.Map.{IsMap}
use Rattle.trie_shape.specs.Tree.{branch, trees}
use Rattle.trie_shape.specs.View.{tree}
use Rattle.united_roots.specs.Rows.{United}
use Rattle.united_roots.proofs.root_row.RootRow.len.Goals as goal

pub returns-clause-count : goal.returns-clause-count
returns-clause-count g c =
    let r = c.self.inside in
    c.self.invariant.0.fits.2
    ∙ c.root_is_map.ensures.size (branch r.newest.0 r.pairs r.bitmap (trees (map tree r.children.items))) c.self.invariant.0
    ∙ ap (λ (h : United _ _). length h.entries) c.self.view_is

pub returns-clause-sorted : goal.returns-clause-sorted
returns-clause-sorted g c =
    let r = c.self.inside in
    subst (λ (h : United _ _). IsMap g.K.Ord.cmp h.entries) c.self.view_is (c.root_is_map.ensures.sorted (branch r.newest.0 r.pairs r.bitmap (trees (map tree r.children.items))))
