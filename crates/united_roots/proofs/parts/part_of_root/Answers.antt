use Rattle.std.proofs.Common.{◌≡◌, ◌<◌, [], ◌∷◌, length, Some, ap, ◌∙◌, refl}
use Rattle.hash_path.specs.Digits.{fan_out}
use Rattle.trie_merging.specs.Merges.{child_at}
use Rattle.trie_shape.specs.Roots.{map_of}
use Rattle.trie_shape.specs.Tree.{entries}
use Rattle.trie_shape.specs.View.{tree}
use Rattle.trie_shape.proofs.Views.{on_ok}
use Rattle.united_roots.proofs.OnlyChild.{only_is_part, only_root, part_none}
use Rattle.united_roots.proofs.Taking.{row_counted}
use Rattle.united_roots.proofs.parts.part_of_root.Goals as goal

pub returns-in_default-clause-at_key : goal.returns-in_default-clause-at_key
returns-in_default-clause-at_key g c =
    let a = c.args in
    on_ok c.empty_root.result _ _
    (λ part empty. part_none g.K.Ord.cmp g.K.PathKey.path_of g.met.K.Ord.total g.met.K.PathKey.exact g.met.K.PathKey.small a.digit (tree a.root.now) c.requires.root c.in_default.ensures.child (map_of g.K.Ord.cmp (tree part)) empty)
    c.empty_root.ensures.map

pub make_branch-requires : goal.make_branch-requires
make_branch-requires g c =
    let R = g.K.Ord.cmp in
    let path = g.K.PathKey.path_of in
    let a = c.args in
    let below : a.digit < fan_out = c.in-Some.ensures.digit in
    let child = tree c.in_ok-child.child in
    let some : Some child ≡ child_at (tree a.root.now) a.digit = ap (λ t. Some t) c.in_ok-child.ensures ∙ c.in-Some.ensures.child in
    let root = only_root R path g.met.K.Ord.total g.met.K.PathKey.exact g.met.K.PathKey.small a.digit (tree a.root.now) c.requires.root below child some 0 (length (entries child)) refl in
    row_counted 0 (length (entries child)) _ (c.in_ok-child.child ∷ []) root.fits

pub returns-clause-root : goal.returns-clause-root
returns-clause-root g c =
    let a = c.args in
    let some : Some (tree c.in_ok-child.child) ≡ child_at (tree a.root.now) a.digit = ap (λ t. Some t) c.in_ok-child.ensures ∙ c.in-Some.ensures.child in
    on_ok c.make_branch.result _ _
    (λ part is. (only_is_part g.K.Ord.cmp g.K.PathKey.path_of g.met.K.Ord.total g.met.K.PathKey.exact g.met.K.PathKey.small a.digit (tree a.root.now) c.requires.root c.in-Some.ensures.digit (tree c.in_ok-child.child) some a.newest.0 c.size-pairs.result c.size-pairs.ensures c.requires.newest (tree part) is).is_root)
    c.make_branch.ensures

pub returns-clause-at_key : goal.returns-clause-at_key
returns-clause-at_key g c =
    let a = c.args in
    let some : Some (tree c.in_ok-child.child) ≡ child_at (tree a.root.now) a.digit = ap (λ t. Some t) c.in_ok-child.ensures ∙ c.in-Some.ensures.child in
    on_ok c.make_branch.result _ _
    (λ part is. (only_is_part g.K.Ord.cmp g.K.PathKey.path_of g.met.K.Ord.total g.met.K.PathKey.exact g.met.K.PathKey.small a.digit (tree a.root.now) c.requires.root c.in-Some.ensures.digit (tree c.in_ok-child.child) some a.newest.0 c.size-pairs.result c.size-pairs.ensures c.requires.newest (tree part) is).at_key)
    c.make_branch.ensures

pub returns-clause-few : goal.returns-clause-few
returns-clause-few g c =
    let a = c.args in
    let some : Some (tree c.in_ok-child.child) ≡ child_at (tree a.root.now) a.digit = ap (λ t. Some t) c.in_ok-child.ensures ∙ c.in-Some.ensures.child in
    on_ok c.make_branch.result _ _
    (λ part is. (only_is_part g.K.Ord.cmp g.K.PathKey.path_of g.met.K.Ord.total g.met.K.PathKey.exact g.met.K.PathKey.small a.digit (tree a.root.now) c.requires.root c.in-Some.ensures.digit (tree c.in_ok-child.child) some a.newest.0 c.size-pairs.result c.size-pairs.ensures c.requires.newest (tree part) is).few)
    c.make_branch.ensures

pub returns-clause-newest : goal.returns-clause-newest
returns-clause-newest g c =
    let a = c.args in
    let some : Some (tree c.in_ok-child.child) ≡ child_at (tree a.root.now) a.digit = ap (λ t. Some t) c.in_ok-child.ensures ∙ c.in-Some.ensures.child in
    on_ok c.make_branch.result _ _
    (λ part is. (only_is_part g.K.Ord.cmp g.K.PathKey.path_of g.met.K.Ord.total g.met.K.PathKey.exact g.met.K.PathKey.small a.digit (tree a.root.now) c.requires.root c.in-Some.ensures.digit (tree c.in_ok-child.child) some a.newest.0 c.size-pairs.result c.size-pairs.ensures c.requires.newest (tree part) is).none_above)
    c.make_branch.ensures
