use Rattle.std.proofs.Common.{rules, ◌≡◌, [], ◌∷◌, ◌+◌, ◌<◌, map, refl, sym, ap, ◌∙◌, subst, arith, get_or}
use Rattle.std.specs.Arc.{arc_value}
use Rattle.std.specs.Int.RustNames.{count_ones}
use Rattle.slots.specs.Rows.{node_size}
use Rattle.trie_shape.specs.Tree.{IsTrie, branch, bucket, trees}
use Rattle.trie_shape.specs.View.{tree, branch_of, in_row, pair_values}
use Rattle.trie_shape.proofs.Views.{tree-Two, tree-Four, tree-Eight, tree-Sixteen, tree-All}
use Rattle.trie_shape.proofs.Ways.{turn}
use Rattle.trie_copy.proofs.InRows.{place_fits, place_used, place_in_row, way_in_row, held_there, set_in_row, same_in_row}
use Rattle.trie_copy.proofs.Taken.{equal_of_index}
use Rattle.trie_puts.proofs.Exchanging.{exchange_equal, exchange_leaf, exchange_child}
use Rattle.trie_puts.proofs.exchange.+exchange.Goals as goal

pub exchange_below-bounds-row-at : goal.exchange_below-bounds-row-at
exchange_below-bounds-row-at g t c =
    let a = c.args in
    let d = c.digit-digit in
    let u = turn g.K.Ord.cmp g.K.PathKey.path_of a.level (in_row a.size a.bitmap a.row.now) c.requires.trie c.requires.path d.ensures.value d.ensures.small in
    place_in_row a.size a.bitmap a.row.now u (sym c.has_digit.ensures ∙ c.if-not-has_digit.false) c.place-at.ensures

pub exchange_below-exchange_at-requires : goal.exchange_below-exchange_at-requires
exchange_below-exchange_at-requires g t c κs inside =
    let a = c.args in
    let d = c.digit-digit in
    let u = turn g.K.Ord.cmp g.K.PathKey.path_of a.level (in_row a.size a.bitmap a.row.now) c.requires.trie c.requires.path d.ensures.value d.ensures.small in
    let has = sym c.has_digit.ensures ∙ c.if-not-has_digit.false in
    let there = held_there a.row.now c.place-at.result c.index-row-at.result (place_in_row a.size a.bitmap a.row.now u has c.place-at.ensures) in
    let w = way_in_row a.size a.bitmap a.row.now u g.met.K.PathKey.exact has c.place-at.ensures there in
    (omega (arith, w.above), (search rules, (search rules, (search rules, (search rules, (search rules, (search rules, (search rules, (c.requires.path, w.trie)))))))))

pub exchange_below-returns-in-Done : goal.exchange_below-returns-in-Done
exchange_below-returns-in-Done g t c =
    let R = g.K.Ord.cmp in
    let path = g.K.PathKey.path_of in
    let a = c.args in
    let d = c.digit-digit in
    let b = in_row a.size a.bitmap a.row.now in
    let s = a.stamp.0 in
    let child = get_or a.row.now c.place-at.result c.index-row-at.result in
    let node = c.exchange_at.new.node in
    let u = turn R path a.level b c.requires.trie c.requires.path d.ensures.value d.ensures.small in
    let has = sym c.has_digit.ensures ∙ c.if-not-has_digit.false in
    let there = held_there a.row.now c.place-at.result c.index-row-at.result (place_in_row a.size a.bitmap a.row.now u has c.place-at.ensures) in
    let w = way_in_row a.size a.bitmap a.row.now u g.met.K.PathKey.exact has c.place-at.ensures there in
    exchange_child g.S.ValueSlots.value_of w g.met.K.Ord.total g.met.K.PathKey.exact a.old.now.0 s a.value (g.C.Condition.holds a.condition.now) node c.in-Done.previous c.in-Done.ensures _
    (ap (λ xs. branch s b.size b.bitmap (trees xs)) (set_in_row (count_ones a.bitmap) a.row.now c.place-at.result (place_used a.size a.bitmap a.row.now u has c.place-at.ensures) node))

pub exchange_below-returns-in-Elsewhere : goal.exchange_below-returns-in-Elsewhere
exchange_below-returns-in-Elsewhere g t c =
    let a = c.args in
    let d = c.digit-digit in
    let b = in_row a.size a.bitmap a.row.now in
    let child = get_or a.row.now c.place-at.result c.index-row-at.result in
    let u = turn g.K.Ord.cmp g.K.PathKey.path_of a.level b c.requires.trie c.requires.path d.ensures.value d.ensures.small in
    let has = sym c.has_digit.ensures ∙ c.if-not-has_digit.false in
    let there = held_there a.row.now c.place-at.result c.index-row-at.result (place_in_row a.size a.bitmap a.row.now u has c.place-at.ensures) in
    let kept = c.in-Elsewhere.ensures in
    (kept.0, ap (λ xs. branch a.old.now.0 b.size b.bitmap (trees xs)) (same_in_row (count_ones a.bitmap) a.row.now c.place-at.result (place_used a.size a.bitmap a.row.now u has c.place-at.ensures) c.exchange_at.new.node child there kept.1))

pub exchange_at-returns-then-eq : goal.exchange_at-returns-then-eq
exchange_at-returns-then-eq g t c =
    let R = g.K.Ord.cmp in
    let a = c.args in
    let m = c.in-Leaf in
    let k = g.Q.Sought.key_of a.key in
    let opened = (λ i. bucket (m.old-is i).0 (pair_values (m.pair-is i) ∷ [])) ∙ sym (ap tree m.is) in
    let tie = ap (R k) (sym c.key.ensures) ∙ sym c.compare_with.ensures ∙ equal_of_index c.compare_with.result (sym c.eq.ensures ∙ c.if-eq.true) in
    exchange_leaf g.S.ValueSlots.value_of R g.met.K.Ord.total g.K.PathKey.path_of g.met.K.PathKey.exact a.level a.stamp.0 k a.value (g.C.Condition.holds a.condition.now) (tree a.node.now) _ _ _ _ c.exchange_in_pair.result
    opened tie c.requires.trie c.exchange_in_pair.ensures

pub exchange_at-returns-in-Some : goal.exchange_at-returns-in-Some
exchange_at-returns-in-Some g t c =
    let R = g.K.Ord.cmp in
    let path = g.K.PathKey.path_of in
    let a = c.args in
    let m = c.in-Bucket in
    let is = c.in-Some.ensures.value ∙ ap arc_value m.pairs-is in
    let opened = (λ i. bucket (m.old-is i).0 (map pair_values (is i).items)) ∙ sym (ap tree m.is) in
    exchange_equal g.S.ValueSlots.value_of R path a.level a.stamp.0 (g.Q.Sought.key_of a.key) a.value (g.C.Condition.holds a.condition.now) c.exchange_in_pairs.result
    opened refl (c.exchange_in_pairs.ensures a.level (subst (IsTrie R path a.level) (sym opened) c.requires.trie))

pub exchange_in_row-exchange_in_two-requires : goal.exchange_in_row-exchange_in_two-requires
exchange_in_row-exchange_in_two-requires g t c κs inside =
    let R = g.K.Ord.cmp in
    let path = g.K.PathKey.path_of in
    let a = c.args in
    let m = c.in-Two in
    let row = c.in-Some.ensures.value ∙ ap arc_value m.row-is in
    let opened = (λ i. branch_of (m.old-is i).0 (in_row (m.size-is i) (m.bitmap-is i) (row i))) ∙ sym (ap tree m.is ∙ tree-Two m.bitmap m.old m.size m.row) in
    (omega arith, (search rules, (search rules, (search rules, (search rules, (search rules, (search rules, (search rules, (g.met.S.Slots.rows.0, (c.requires.path, subst (IsTrie R path a.level) (sym opened) c.requires.trie))))))))))

pub exchange_in_row-returns-in-Some : goal.exchange_in_row-returns-in-Some
exchange_in_row-returns-in-Some g t c =
    let R = g.K.Ord.cmp in
    let path = g.K.PathKey.path_of in
    let a = c.args in
    let m = c.in-Two in
    let row = c.in-Some.ensures.value ∙ ap arc_value m.row-is in
    let opened = (λ i. branch_of (m.old-is i).0 (in_row (m.size-is i) (m.bitmap-is i) (row i))) ∙ sym (ap tree m.is ∙ tree-Two m.bitmap m.old m.size m.row) in
    let n = c.exchange_in_two.new in
    exchange_equal g.S.ValueSlots.value_of R path a.level a.stamp.0 (g.Q.Sought.key_of a.key) a.value (g.C.Condition.holds a.condition.now) c.exchange_in_two.result opened (tree-Two _ n.old _ (record m.row { value = n.row })) c.exchange_in_two.ensures

pub exchange_in_row-exchange_in_four-requires : goal.exchange_in_row-exchange_in_four-requires
exchange_in_row-exchange_in_four-requires g t c κs inside =
    let R = g.K.Ord.cmp in
    let path = g.K.PathKey.path_of in
    let a = c.args in
    let m = c.in-Four in
    let row = c.in-Some-get_mut.ensures.value ∙ ap arc_value m.row-is in
    let opened = (λ i. branch_of (m.old-is i).0 (in_row (m.size-is i) (m.bitmap-is i) (row i))) ∙ sym (ap tree m.is ∙ tree-Four m.bitmap m.old m.size m.row) in
    (omega arith, (search rules, (search rules, (search rules, (search rules, (search rules, (search rules, (search rules, (g.met.S.Slots.rows.1, (c.requires.path, subst (IsTrie R path a.level) (sym opened) c.requires.trie))))))))))

pub exchange_in_row-returns-in-Some-get_mut : goal.exchange_in_row-returns-in-Some-get_mut
exchange_in_row-returns-in-Some-get_mut g t c =
    let R = g.K.Ord.cmp in
    let path = g.K.PathKey.path_of in
    let a = c.args in
    let m = c.in-Four in
    let row = c.in-Some-get_mut.ensures.value ∙ ap arc_value m.row-is in
    let opened = (λ i. branch_of (m.old-is i).0 (in_row (m.size-is i) (m.bitmap-is i) (row i))) ∙ sym (ap tree m.is ∙ tree-Four m.bitmap m.old m.size m.row) in
    let n = c.exchange_in_four.new in
    exchange_equal g.S.ValueSlots.value_of R path a.level a.stamp.0 (g.Q.Sought.key_of a.key) a.value (g.C.Condition.holds a.condition.now) c.exchange_in_four.result opened (tree-Four _ n.old _ (record m.row { value = n.row })) c.exchange_in_four.ensures

pub exchange_in_row-exchange_in_eight-requires : goal.exchange_in_row-exchange_in_eight-requires
exchange_in_row-exchange_in_eight-requires g t c κs inside =
    let R = g.K.Ord.cmp in
    let path = g.K.PathKey.path_of in
    let a = c.args in
    let m = c.in-Eight in
    let row = c.in-Some-get_mut-2.ensures.value ∙ ap arc_value m.row-is in
    let opened = (λ i. branch_of (m.old-is i).0 (in_row (m.size-is i) (m.bitmap-is i) (row i))) ∙ sym (ap tree m.is ∙ tree-Eight m.bitmap m.old m.size m.row) in
    (omega arith, (search rules, (search rules, (search rules, (search rules, (search rules, (search rules, (search rules, (g.met.S.Slots.rows.2, (c.requires.path, subst (IsTrie R path a.level) (sym opened) c.requires.trie))))))))))

pub exchange_in_row-returns-in-Some-get_mut-2 : goal.exchange_in_row-returns-in-Some-get_mut-2
exchange_in_row-returns-in-Some-get_mut-2 g t c =
    let R = g.K.Ord.cmp in
    let path = g.K.PathKey.path_of in
    let a = c.args in
    let m = c.in-Eight in
    let row = c.in-Some-get_mut-2.ensures.value ∙ ap arc_value m.row-is in
    let opened = (λ i. branch_of (m.old-is i).0 (in_row (m.size-is i) (m.bitmap-is i) (row i))) ∙ sym (ap tree m.is ∙ tree-Eight m.bitmap m.old m.size m.row) in
    let n = c.exchange_in_eight.new in
    exchange_equal g.S.ValueSlots.value_of R path a.level a.stamp.0 (g.Q.Sought.key_of a.key) a.value (g.C.Condition.holds a.condition.now) c.exchange_in_eight.result opened (tree-Eight _ n.old _ (record m.row { value = n.row })) c.exchange_in_eight.ensures

pub exchange_in_long_row-exchange_in_sixteen-requires : goal.exchange_in_long_row-exchange_in_sixteen-requires
exchange_in_long_row-exchange_in_sixteen-requires g t c κs inside =
    let R = g.K.Ord.cmp in
    let path = g.K.PathKey.path_of in
    let a = c.args in
    let m = c.in-Sixteen in
    let row = c.in-Some.ensures.value ∙ ap arc_value m.row-is in
    let opened = (λ i. branch_of (m.old-is i).0 (in_row (m.size-is i) (m.bitmap-is i) (row i))) ∙ sym (ap tree m.is ∙ tree-Sixteen m.bitmap m.old m.size m.row) in
    (omega arith, (search rules, (search rules, (search rules, (search rules, (search rules, (search rules, (search rules, (g.met.S.Slots.rows.3, (c.requires.path, subst (IsTrie R path a.level) (sym opened) c.requires.trie))))))))))

pub exchange_in_long_row-returns-in-Some : goal.exchange_in_long_row-returns-in-Some
exchange_in_long_row-returns-in-Some g t c =
    let R = g.K.Ord.cmp in
    let path = g.K.PathKey.path_of in
    let a = c.args in
    let m = c.in-Sixteen in
    let row = c.in-Some.ensures.value ∙ ap arc_value m.row-is in
    let opened = (λ i. branch_of (m.old-is i).0 (in_row (m.size-is i) (m.bitmap-is i) (row i))) ∙ sym (ap tree m.is ∙ tree-Sixteen m.bitmap m.old m.size m.row) in
    let n = c.exchange_in_sixteen.new in
    exchange_equal g.S.ValueSlots.value_of R path a.level a.stamp.0 (g.Q.Sought.key_of a.key) a.value (g.C.Condition.holds a.condition.now) c.exchange_in_sixteen.result opened (tree-Sixteen _ n.old _ (record m.row { value = n.row })) c.exchange_in_sixteen.ensures

pub exchange_in_long_row-exchange_in_all-requires : goal.exchange_in_long_row-exchange_in_all-requires
exchange_in_long_row-exchange_in_all-requires g t c κs inside =
    let R = g.K.Ord.cmp in
    let path = g.K.PathKey.path_of in
    let a = c.args in
    let m = c.in-All in
    let row = c.in-Some-get_mut.ensures.value ∙ ap arc_value m.row-is in
    let opened = (λ i. branch_of (m.old-is i).0 (in_row (m.size-is i) (m.bitmap-is i) (row i))) ∙ sym (ap tree m.is ∙ tree-All m.bitmap m.old m.size m.row) in
    (omega arith, (search rules, (search rules, (search rules, (search rules, (search rules, (search rules, (search rules, (g.met.S.Slots.rows.4, (c.requires.path, subst (IsTrie R path a.level) (sym opened) c.requires.trie))))))))))

pub exchange_in_long_row-returns-in-Some-get_mut : goal.exchange_in_long_row-returns-in-Some-get_mut
exchange_in_long_row-returns-in-Some-get_mut g t c =
    let R = g.K.Ord.cmp in
    let path = g.K.PathKey.path_of in
    let a = c.args in
    let m = c.in-All in
    let row = c.in-Some-get_mut.ensures.value ∙ ap arc_value m.row-is in
    let opened = (λ i. branch_of (m.old-is i).0 (in_row (m.size-is i) (m.bitmap-is i) (row i))) ∙ sym (ap tree m.is ∙ tree-All m.bitmap m.old m.size m.row) in
    let n = c.exchange_in_all.new in
    exchange_equal g.S.ValueSlots.value_of R path a.level a.stamp.0 (g.Q.Sought.key_of a.key) a.value (g.C.Condition.holds a.condition.now) c.exchange_in_all.result opened (tree-All _ n.old _ (record m.row { value = n.row })) c.exchange_in_all.ensures

pub exchange_below-offset_bounds-row-at : goal.exchange_below-offset_bounds-row-at
exchange_below-offset_bounds-row-at g t c =
    let a = c.args in
    let d = c.digit-digit in
    let u = turn g.K.Ord.cmp g.K.PathKey.path_of a.level (in_row a.size a.bitmap a.row.now) c.requires.trie c.requires.path d.ensures.value d.ensures.small in
    omega (arith, place_fits a.bitmap c.place-at.result (node_size g.row.S-Key g.row.S-Value) c.requires.trie.1 (place_used a.size a.bitmap a.row.now u (sym c.has_digit.ensures ∙ c.if-not-has_digit.false) c.place-at.ensures) g.met.S.Slots.rows.4)
