use Rattle.std.proofs.Common.{sym, ap, ◌∙◌}
use Rattle.trie_shape.specs.Roots.{map_of}
use Rattle.trie_shape.specs.View.{tree}
use Rattle.trie_merging.proofs.MergedRoots.{only_left, only_right, can_merge_roots, merged_root, merged_map, merged_stamps, merged_none_above}
use Rattle.trie_shape.proofs.Views.{on_ok}
use Rattle.trie_merging.proofs.merging.merged.Goals as goal

pub returns-then-size-eq0-clause-map : goal.returns-then-size-eq0-clause-map
returns-then-size-eq0-clause-map g c =
    let R = g.K.Ord.cmp in
    let path = g.K.PathKey.path_of in
    let total = g.met.K.Ord.total in
    let exact = g.met.K.PathKey.exact in
    let small = g.met.K.PathKey.small in
    let left = tree c.args.left.now in
    let right = tree c.args.right.now in
    let empty = only_right R path total exact small left right c.requires.left c.requires.right (sym (c.size.ensures c.requires.left.fits) ∙ c.if-size-eq0.true) in
    on_ok c.try_clone.result _ _ (λ n same. ap (map_of R) same ∙ empty) c.try_clone.ensures

pub returns-then-size-eq0-2-clause-map : goal.returns-then-size-eq0-2-clause-map
returns-then-size-eq0-2-clause-map g c =
    let R = g.K.Ord.cmp in
    let path = g.K.PathKey.path_of in
    let total = g.met.K.Ord.total in
    let exact = g.met.K.PathKey.exact in
    let small = g.met.K.PathKey.small in
    let left = tree c.args.left.now in
    let right = tree c.args.right.now in
    let empty = only_left R path total exact small left right c.requires.left c.requires.right (sym (c.size-2.ensures c.requires.right.fits) ∙ c.if-size-eq0-2.true) in
    on_ok c.try_clone-then-size-eq0-2.result _ _ (λ n same. ap (map_of R) same ∙ empty) c.try_clone-then-size-eq0-2.ensures

pub merge_at-requires : goal.merge_at-requires
merge_at-requires g c =
    let R = g.K.Ord.cmp in
    let path = g.K.PathKey.path_of in
    let total = g.met.K.Ord.total in
    let exact = g.met.K.PathKey.exact in
    let small = g.met.K.PathKey.small in
    let left = tree c.args.left.now in
    let right = tree c.args.right.now in
    can_merge_roots R path total exact small left right c.requires.left c.requires.right c.requires.room

pub returns-clause-root : goal.returns-clause-root
returns-clause-root g c =
    let R = g.K.Ord.cmp in
    let path = g.K.PathKey.path_of in
    let total = g.met.K.Ord.total in
    let exact = g.met.K.PathKey.exact in
    let small = g.met.K.PathKey.small in
    let left = tree c.args.left.now in
    let right = tree c.args.right.now in
    on_ok c.merge_at.result _ _ (λ n m. merged_root R path total exact small left right c.requires.left c.requires.right c.args.stamp.0 (tree n) m) c.merge_at.ensures

pub returns-clause-map : goal.returns-clause-map
returns-clause-map g c =
    let R = g.K.Ord.cmp in
    let path = g.K.PathKey.path_of in
    let total = g.met.K.Ord.total in
    let exact = g.met.K.PathKey.exact in
    let small = g.met.K.PathKey.small in
    let left = tree c.args.left.now in
    let right = tree c.args.right.now in
    on_ok c.merge_at.result _ _ (λ n m. merged_map R path total exact small left right c.requires.left c.requires.right c.args.stamp.0 (tree n) m) c.merge_at.ensures

pub returns-clause-stamped : goal.returns-clause-stamped
returns-clause-stamped g c test stamped left_pass right_pass =
    let R = g.K.Ord.cmp in
    let path = g.K.PathKey.path_of in
    let total = g.met.K.Ord.total in
    let exact = g.met.K.PathKey.exact in
    let small = g.met.K.PathKey.small in
    let left = tree c.args.left.now in
    let right = tree c.args.right.now in
    on_ok c.merge_at.result _ _ (λ n m. merged_stamps R path total exact small left right c.requires.left c.requires.right c.args.stamp.0 (tree n) m test stamped left_pass right_pass) c.merge_at.ensures

pub returns-clause-stamps : goal.returns-clause-stamps
returns-clause-stamps g c newest le left_none right_none =
    let R = g.K.Ord.cmp in
    let path = g.K.PathKey.path_of in
    let total = g.met.K.Ord.total in
    let exact = g.met.K.PathKey.exact in
    let small = g.met.K.PathKey.small in
    let left = tree c.args.left.now in
    let right = tree c.args.right.now in
    on_ok c.merge_at.result _ _ (λ n m. merged_none_above R path total exact small left right c.requires.left c.requires.right c.args.stamp.0 (tree n) m newest le left_none right_none) c.merge_at.ensures
