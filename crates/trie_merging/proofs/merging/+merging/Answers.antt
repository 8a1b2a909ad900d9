use Rattle.std.proofs.Common.{rules, ◌≡◌, ◌+◌, ◌<◌, ◌++◌, [], ◌∷◌, length, map, bit_or, option_map, IfSome, sym, ap, ◌∙◌, subst, arith}
use Rattle.std.proofs.lemmas.List.{length-map, map-append}
use Rattle.hash_path.specs.Digits.{fan_out}
use Rattle.trie_merging.specs.Merges.{child_at}
use Rattle.trie_shape.specs.Tree.{branch, entries, entries_of_all, trees, IsTrie}
use Rattle.trie_shape.specs.View.{tree}
use Rattle.trie_shape.proofs.Divides.{trie_fits}
use Rattle.trie_merging.proofs.MergedPairs.{can_put_right, can_put_left, merges_right, merges_left}
use Rattle.trie_merging.proofs.MergedRows.{IsRow, side, can_same, can_below, merges_same, row_kept, row_more, row_counted, row_done, length_row, room_row}
use Rattle.trie_shape.proofs.Views.{on_ok}
use Rattle.trie_merging.proofs.merging.+merging.Goals as goal
use Rattle.trie_merging.proofs.merging.+merging.Goals.{merge_branches-in-Some+in_ok-push, merge_branches-in_default}

pub merge_branches-child_of-left_child-requires-clause-fits : goal.merge_branches-child_of-left_child-requires-clause-fits
merge_branches-child_of-left_child-requires-clause-fits g t c = trie_fits g.K.Ord.cmp g.K.PathKey.path_of c.args.level (tree c.args.left.now) c.requires.both.left_trie

pub merge_branches-child_of-right_child-requires-clause-fits : goal.merge_branches-child_of-right_child-requires-clause-fits
merge_branches-child_of-right_child-requires-clause-fits g t c = trie_fits g.K.Ord.cmp g.K.PathKey.path_of c.args.level (tree c.args.right.now) c.requires.both.right_trie

pub merge_branches-merge_children-requires : goal.merge_branches-merge_children-requires
merge_branches-merge_children-requires g t c κs within =
    let R = g.K.Ord.cmp in
    let path = g.K.PathKey.path_of in
    let exact = g.met.K.PathKey.exact in
    let a = c.args in
    let lt = tree a.left.now in
    let rt = tree a.right.now in
    let l = side R path exact a.level a.left_bitmap lt c.requires.left c.requires.both.left_trie in
    let r = side R path exact a.level a.right_bitmap rt c.requires.right c.requires.both.right_trie in
    let k = c.loop-digit.digit in
    let can = can_below R path exact a.level a.left_bitmap a.right_bitmap lt rt l r c.requires.both k in
    (omega (arith, l.level_in), (search rules, (search rules, (search rules, (search rules, (search rules, can_same R path (a.level + 1) _ _ (child_at lt k) (child_at rt k) c.child_of-left_child.ensures c.child_of-right_child.ensures can))))))

pub merge_branches-overflow_add-pairs : goal.merge_branches-overflow_add-pairs
merge_branches-overflow_add-pairs g t c =
    let R = g.K.Ord.cmp in
    let path = g.K.PathKey.path_of in
    let exact = g.met.K.PathKey.exact in
    let a = c.args in
    let lt = tree a.left.now in
    let rt = tree a.right.now in
    let l = side R path exact a.level a.left_bitmap lt c.requires.left c.requires.both.left_trie in
    let r = side R path exact a.level a.right_bitmap rt c.requires.right c.requires.both.right_trie in
    let k = c.loop-digit.digit in
    let row = map tree c.loop-digit.children.items in
    let o = option_map tree c.in_ok-merged.merged in
    let m = merges_same R path (a.level + 1) a.stamp.0 _ _ (child_at lt k) (child_at rt k) o c.child_of-left_child.ensures c.child_of-right_child.ensures c.in_ok-merged.ensures in
    let child = tree c.in-Some.child in
    let some = ap (option_map tree) c.in-Some.is in
    let more = row_more R path exact a.level a.left_bitmap a.right_bitmap lt rt l r c.requires.both a.stamp.0 k (omega (arith, c.loop-digit-test.true)) row c.loop-digit.invariant.row o m child some in
    let trie = subst (λ x. IfSome x (IsTrie R path (a.level + 1))) some m.trie in
    let size : c.size-pairs.result ≡ length (entries child) = c.size-pairs.ensures (trie_fits R path (a.level + 1) child trie) in
    omega (arith, c.loop-digit.invariant.counted, size, length_row row child, room_row R path exact a.level a.left_bitmap a.right_bitmap lt rt l r c.requires.both a.stamp.0 (k + 1) (row ++ child ∷ []) more)

pub merge_branches-loop-digit-preserved : goal.merge_branches-loop-digit-preserved
merge_branches-loop-digit-preserved g t c =
    let R = g.K.Ord.cmp in
    let path = g.K.PathKey.path_of in
    let exact = g.met.K.PathKey.exact in
    let a = c.args in
    let lt = tree a.left.now in
    let rt = tree a.right.now in
    let l = side R path exact a.level a.left_bitmap lt c.requires.left c.requires.both.left_trie in
    let r = side R path exact a.level a.right_bitmap rt c.requires.right c.requires.both.right_trie in
    let k = c.loop-digit.digit in
    let row = map tree c.loop-digit.children.items in
    let o = option_map tree c.in_ok-merged.merged in
    let m = merges_same R path (a.level + 1) a.stamp.0 _ _ (child_at lt k) (child_at rt k) o c.child_of-left_child.ensures c.child_of-right_child.ensures c.in_ok-merged.ensures in
    let below : k < fan_out = omega (arith, c.loop-digit-test.true) in
    elim c.match-merged.branch [
      | merge_branches-in-Some+in_ok-push w ↦
          let child = tree w.in-Some.child in
          let some = ap (option_map tree) w.in-Some.is in
          let more = row_more R path exact a.level a.left_bitmap a.right_bitmap lt rt l r c.requires.both a.stamp.0 k below row c.loop-digit.invariant.row o m child some in
          let trie = subst (λ x. IfSome x (IsTrie R path (a.level + 1))) some m.trie in
          let size : w.size-pairs.result ≡ length (entries child) = w.size-pairs.ensures (trie_fits R path (a.level + 1) child trie) in
          let items : map tree c.match-merged.children.items ≡ row ++ child ∷ [] = ap (λ v. map tree v.items) w.children-is ∙ ap (map tree) w.in_ok-push.ensures.items ∙ map-append tree c.loop-digit.children.items (w.in-Some.child ∷ []) in
          record {
            row = subst (IsRow R path a.level a.stamp.0 (bit_or a.left_bitmap a.right_bitmap) lt rt (k + 1)) (sym items) more;
            counted = omega (arith, w.pairs-is, c.loop-digit.invariant.counted, size, length_row row child, ap (λ xs. length (entries_of_all (trees xs))) items);
          }
      | merge_branches-in_default w ↦
          let kept = row_kept R path exact a.level a.left_bitmap a.right_bitmap lt rt l r c.requires.both a.stamp.0 k below row c.loop-digit.invariant.row o m (ap (option_map tree) w.in_default.is) in
          let items : map tree c.match-merged.children.items ≡ row = ap (λ v. map tree v.items) w.children-is in
          record {
            row = subst (IsRow R path a.level a.stamp.0 (bit_or a.left_bitmap a.right_bitmap) lt rt (k + 1)) (sym items) kept;
            counted = w.pairs-is ∙ c.loop-digit.invariant.counted ∙ ap (λ xs. length (entries_of_all (trees xs))) (sym items);
          }
    ]

pub merge_branches-make_branch-requires : goal.merge_branches-make_branch-requires
merge_branches-make_branch-requires g t c =
    let R = g.K.Ord.cmp in
    let path = g.K.PathKey.path_of in
    let exact = g.met.K.PathKey.exact in
    let a = c.args in
    let lt = tree a.left.now in
    let rt = tree a.right.now in
    let l = side R path exact a.level a.left_bitmap lt c.requires.left c.requires.both.left_trie in
    let r = side R path exact a.level a.right_bitmap rt c.requires.right c.requires.both.right_trie in
    let children = c.loop-digit.children.items in
    let whole = subst (λ k. IsRow R path a.level a.stamp.0 (bit_or a.left_bitmap a.right_bitmap) lt rt k (map tree children)) {x = c.loop-digit.digit} {y = fan_out} (omega (arith, c.loop-digit-test.false)) c.loop-digit.invariant.row in
    ap length c.as_mut_slice.ensures.value ∙ sym (length-map children tree) ∙ row_counted R path exact a.level a.left_bitmap a.right_bitmap lt rt l r c.requires.both a.stamp.0 (map tree children) whole

pub merge_branches-returns : goal.merge_branches-returns
merge_branches-returns g t c =
    let R = g.K.Ord.cmp in
    let path = g.K.PathKey.path_of in
    let exact = g.met.K.PathKey.exact in
    let a = c.args in
    let lt = tree a.left.now in
    let rt = tree a.right.now in
    let l = side R path exact a.level a.left_bitmap lt c.requires.left c.requires.both.left_trie in
    let r = side R path exact a.level a.right_bitmap rt c.requires.right c.requires.both.right_trie in
    let row = map tree c.loop-digit.children.items in
    let whole = subst (λ k. IsRow R path a.level a.stamp.0 (bit_or a.left_bitmap a.right_bitmap) lt rt k row) {x = c.loop-digit.digit} {y = fan_out} (omega (arith, c.loop-digit-test.false)) c.loop-digit.invariant.row in
    on_ok c.make_branch.result _ _ (λ n made. row_done R path exact a.level a.left_bitmap a.right_bitmap lt rt l r c.requires.both a.stamp.0 row whole c.loop-digit.pairs c.loop-digit.invariant.counted (tree n) (made ∙ ap (λ xs. branch a.stamp.0 c.loop-digit.pairs (bit_or a.left_bitmap a.right_bitmap) (trees (map tree xs))) c.as_mut_slice.ensures.value)) c.make_branch.ensures

pub merge_at-put_each-requires : goal.merge_at-put_each-requires
merge_at-put_each-requires g t c =
    let a = c.args in
    can_put_right g.K.Ord.cmp g.K.PathKey.path_of a.level a.stamp.0 c.in-Pairs-look.pairs.now (tree a.left.now) (tree a.right.now) c.in-Pairs-look.ensures c.requires

pub merge_at-put_each-requires-in-Pairs-look-2 : goal.merge_at-put_each-requires-in-Pairs-look-2
merge_at-put_each-requires-in-Pairs-look-2 g t c =
    let a = c.args in
    can_put_right g.K.Ord.cmp g.K.PathKey.path_of a.level a.stamp.0 c.in-Pairs-look-2.fewer.now (tree a.left.now) (tree a.right.now) c.in-Pairs-look-2.ensures c.requires

pub merge_at-put_each-requires-in_default : goal.merge_at-put_each-requires-in_default
merge_at-put_each-requires-in_default g t c =
    let a = c.args in
    can_put_left g.K.Ord.cmp g.K.PathKey.path_of a.level a.stamp.0 c.in-Pairs.pairs.now (tree a.left.now) (tree a.right.now) c.in-Pairs.ensures c.requires

pub merge_at-returns-in-Pairs-look : goal.merge_at-returns-in-Pairs-look
merge_at-returns-in-Pairs-look g t c =
    let a = c.args in
    let merges = merges_right g.K.Ord.cmp g.K.PathKey.path_of a.level a.stamp.0 c.in-Pairs-look.pairs.now (tree a.left.now) (tree a.right.now) in
    on_ok c.put_each.result _ _ (λ n h. merges (tree n) c.in-Pairs-look.ensures h) c.put_each.ensures

pub merge_at-returns-in-Pairs-look-2 : goal.merge_at-returns-in-Pairs-look-2
merge_at-returns-in-Pairs-look-2 g t c =
    let a = c.args in
    let merges = merges_right g.K.Ord.cmp g.K.PathKey.path_of a.level a.stamp.0 c.in-Pairs-look-2.fewer.now (tree a.left.now) (tree a.right.now) in
    on_ok c.put_each-in-Pairs-look-2.result _ _ (λ n h. merges (tree n) c.in-Pairs-look-2.ensures h) c.put_each-in-Pairs-look-2.ensures

pub merge_at-returns-in_default : goal.merge_at-returns-in_default
merge_at-returns-in_default g t c =
    let a = c.args in
    let merges = merges_left g.K.Ord.cmp g.K.PathKey.path_of a.level a.stamp.0 c.in-Pairs.pairs.now (tree a.left.now) (tree a.right.now) in
    on_ok c.put_each-in_default.result _ _ (λ n h. merges (tree n) c.in-Pairs.ensures h) c.put_each-in_default.ensures
