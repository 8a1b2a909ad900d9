use Rattle.std.proofs.Common.{rules, ◌≡◌, [], ◌∷◌, option_map, ◌+◌, ◌-◌, ◌<◌, ◌^◌, map, refl, sym, ap, ◌∙◌, subst, arith, length, get_or, true≢false}
use Rattle.std.specs.Arc.{arc_value}
use Rattle.std.specs.FinMap.{find}
use Rattle.std.specs.Int.RustNames.{count_ones}
use Rattle.std.proofs.lemmas.Result.{on_err_weaker}
use Rattle.slots.specs.Rows.{node_size}
use Rattle.trie_shape.specs.Tree.{IsTrie, KeysHaveWord, branch, bucket, trees, entries}
use Rattle.trie_shape.specs.View.{tree, branch_of, in_row, pair_values}
use Rattle.trie_shape.proofs.Divides.{trie_fits}
use Rattle.trie_shape.proofs.Views.{on_ok, tree-Two, tree-Four, tree-Eight, tree-Sixteen, tree-All}
use Rattle.trie_shape.proofs.Ways.{turn, gap_within, absent, children_long}
use Rattle.trie_puts.specs.PutInPlace.{is_refusable}
use Rattle.trie_copy.specs.Writes.{KeysAgree}
use Rattle.trie_copy.proofs.InRows.{place_fits, row_has, place_used, place_in_row, way_in_row, held_there, set_in_row, same_in_row}
use Rattle.trie_puts.proofs.Placing.{puts_leaf}
use Rattle.trie_copy.proofs.PutsBelow.{agree_below, child_put}
use Rattle.trie_puts.proofs.PuttingInPlace.{leaf_inside, inside_equal, refusable_absent}
use Rattle.trie_copy.proofs.Cases.{at_err}
use Rattle.trie_puts.proofs.Standing.{puts_equal}
use Rattle.trie_copy.proofs.Taken.{equal_of_index}
use Rattle.trie_puts.proofs.put_in_place.+put_in.Goals as goal

pub put_in_branch-put_leaf-requires-clause-at : goal.put_in_branch-put_leaf-requires-clause-at
put_in_branch-put_leaf-requires-clause-at g t c =
    let a = c.args in
    let d = c.digit-digit in
    let b = in_row a.size.now a.bitmap.now a.row.now in
    let u = turn g.K.Ord.cmp g.K.PathKey.path_of a.level b c.requires.trie c.requires.path d.ensures.value d.ensures.small in
    omega (arith, gap_within u (sym c.has_digit.ensures ∙ c.if-not-has_digit.true), c.place-at.ensures, children_long g.K.Ord.cmp g.K.PathKey.path_of a.level 0 b c.requires.trie)

pub put_in_branch-put_leaf-requires-clause-row : goal.put_in_branch-put_leaf-requires-clause-row
put_in_branch-put_leaf-requires-clause-row g t c =
    let a = c.args in
    let d = c.digit-digit in
    row_has a.size.now a.bitmap.now a.row.now (turn g.K.Ord.cmp g.K.PathKey.path_of a.level (in_row a.size.now a.bitmap.now a.row.now) c.requires.trie c.requires.path d.ensures.value d.ensures.small)

pub put_in_branch-put_leaf-requires-clause-lacks : goal.put_in_branch-put_leaf-requires-clause-lacks
put_in_branch-put_leaf-requires-clause-lacks g t c = sym c.has_digit.ensures ∙ c.if-not-has_digit.true

pub put_in_branch-put_leaf-requires-clause-size : goal.put_in_branch-put_leaf-requires-clause-size
put_in_branch-put_leaf-requires-clause-size g t c = omega (arith, c.requires.trie.2, c.requires.room)

pub put_in_branch-returns-then-not-has_digit-clause-ok : goal.put_in_branch-returns-then-not-has_digit-clause-ok
put_in_branch-returns-then-not-has_digit-clause-ok g t c =
    let a = c.args in
    let d = c.digit-digit in
    let b = in_row a.size.now a.bitmap.now a.row.now in
    let u = turn g.K.Ord.cmp g.K.PathKey.path_of a.level b c.requires.trie c.requires.path d.ensures.value d.ensures.small in
    let lacks = sym c.has_digit.ensures ∙ c.if-not-has_digit.true in
    leaf_inside g.S.ValueSlots.value_of u g.met.K.Ord.total g.met.K.PathKey.exact lacks c.place-at.ensures a.stamp.now.0 a.entry refl (g.C.Condition.holds a.condition.now) c.put_leaf.result _ c.put_leaf.ensures.ok

pub put_in_branch-returns-then-not-has_digit-clause-due : goal.put_in_branch-returns-then-not-has_digit-clause-due
put_in_branch-returns-then-not-has_digit-clause-due g t c =
    let a = c.args in
    let d = c.digit-digit in
    let u = turn g.K.Ord.cmp g.K.PathKey.path_of a.level (in_row a.size.now a.bitmap.now a.row.now) c.requires.trie c.requires.path d.ensures.value d.ensures.small in
    let none = absent u g.met.K.PathKey.exact (sym c.has_digit.ensures ∙ c.if-not-has_digit.true) in
    on_err_weaker c.put_leaf.result (λ e. ap (is_refusable (g.C.Condition.holds a.condition.now)) none ∙ refusable_absent (g.C.Condition.holds a.condition.now) e) c.put_leaf.ensures.due

pub put_in_branch-bounds-row-at : goal.put_in_branch-bounds-row-at
put_in_branch-bounds-row-at g t c =
    let a = c.args in
    let d = c.digit-digit in
    let u = turn g.K.Ord.cmp g.K.PathKey.path_of a.level (in_row a.size.now a.bitmap.now a.row.now) c.requires.trie c.requires.path d.ensures.value d.ensures.small in
    place_in_row a.size.now a.bitmap.now a.row.now u (sym c.has_digit.ensures ∙ c.if-not-has_digit.false) c.place-at.ensures

pub put_in_branch-put_in_at-requires : goal.put_in_branch-put_in_at-requires
put_in_branch-put_in_at-requires g t c κs inside =
    let a = c.args in
    let d = c.digit-digit in
    let u = turn g.K.Ord.cmp g.K.PathKey.path_of a.level (in_row a.size.now a.bitmap.now a.row.now) c.requires.trie c.requires.path d.ensures.value d.ensures.small in
    let there = (held_there a.row.now c.place-at.result c.index-row-at.result (place_in_row a.size.now a.bitmap.now a.row.now u (sym c.has_digit.ensures ∙ c.if-not-has_digit.false) c.place-at.ensures)) in
    let w = way_in_row a.size.now a.bitmap.now a.row.now u g.met.K.PathKey.exact (sym c.has_digit.ensures ∙ c.if-not-has_digit.false) c.place-at.ensures there in
    (omega (arith, w.above), (search rules, (search rules, (search rules, (search rules, (search rules, (search rules, (w.trie, (c.requires.path, (agree_below w c.requires.path c.requires.agree, omega (arith, w.fewer, w.counted, c.requires.room)))))))))))

pub put_in_branch-returns-in_err-done-clause-err :
    goal.put_in_branch-returns-in_err-done-clause-err
put_in_branch-returns-in_err-done-clause-err g t c =
    let a = c.args in
    let d = c.digit-digit in
    let u = turn g.K.Ord.cmp g.K.PathKey.path_of a.level (in_row a.size.now a.bitmap.now a.row.now) c.requires.trie c.requires.path d.ensures.value d.ensures.small in
    let b = in_row a.size.now a.bitmap.now a.row.now in
    let child = get_or a.row.now c.place-at.result c.index-row-at.result in
    at_err c.from_residual.result (ap (λ xs. branch a.stamp.now.0 b.size b.bitmap (trees xs)) (same_in_row (count_ones a.bitmap.now) a.row.now c.place-at.result (place_used a.size.now a.bitmap.now a.row.now u (sym c.has_digit.ensures ∙ c.if-not-has_digit.false) c.place-at.ensures) c.put_in_at.new.node child (held_there a.row.now c.place-at.result c.index-row-at.result (place_in_row a.size.now a.bitmap.now a.row.now u (sym c.has_digit.ensures ∙ c.if-not-has_digit.false) c.place-at.ensures)) c.in_err-done.ensures.err))

pub put_in_branch-returns-in_err-done-clause-due : goal.put_in_branch-returns-in_err-done-clause-due
put_in_branch-returns-in_err-done-clause-due g t c =
    let a = c.args in
    let d = c.digit-digit in
    let u = turn g.K.Ord.cmp g.K.PathKey.path_of a.level (in_row a.size.now a.bitmap.now a.row.now) c.requires.trie c.requires.path d.ensures.value d.ensures.small in
    let there = (held_there a.row.now c.place-at.result c.index-row-at.result (place_in_row a.size.now a.bitmap.now a.row.now u (sym c.has_digit.ensures ∙ c.if-not-has_digit.false) c.place-at.ensures)) in
    let w = way_in_row a.size.now a.bitmap.now a.row.now u g.met.K.PathKey.exact (sym c.has_digit.ensures ∙ c.if-not-has_digit.false) c.place-at.ensures there in
    at_err c.from_residual.result (ap (is_refusable (g.C.Condition.holds a.condition.now)) w.found ∙ c.in_err-done.ensures.due)

pub put_in_branch-returns-then-not-done-clause-ok :
    goal.put_in_branch-returns-then-not-done-clause-ok
put_in_branch-returns-then-not-done-clause-ok g t c =
    let a = c.args in
    let d = c.digit-digit in
    let b = in_row a.size.now a.bitmap.now a.row.now in
    let child = get_or a.row.now c.place-at.result c.index-row-at.result in
    let u = turn g.K.Ord.cmp g.K.PathKey.path_of a.level b c.requires.trie c.requires.path d.ensures.value d.ensures.small in
    let there = (held_there a.row.now c.place-at.result c.index-row-at.result (place_in_row a.size.now a.bitmap.now a.row.now u (sym c.has_digit.ensures ∙ c.if-not-has_digit.false) c.place-at.ensures)) in
    let w = way_in_row a.size.now a.bitmap.now a.row.now u g.met.K.PathKey.exact (sym c.has_digit.ensures ∙ c.if-not-has_digit.false) c.place-at.ensures there in
    let done = c.in_ok-done.ensures.ok in
    record {
      previous_is = done.previous_is ∙ sym w.found;
      written_is = done.written_is ∙ ap (g.C.Condition.holds a.condition.now) (sym w.found);
      writes = λ e. absurd (true≢false (sym e ∙ c.if-not-done.true));
      kept = λ e. ap (λ xs. branch a.stamp.now.0 b.size b.bitmap (trees xs)) (same_in_row (count_ones a.bitmap.now) a.row.now c.place-at.result (place_used a.size.now a.bitmap.now a.row.now u (sym c.has_digit.ensures ∙ c.if-not-has_digit.false) c.place-at.ensures) c.put_in_at.new.node child (held_there a.row.now c.place-at.result c.index-row-at.result (place_in_row a.size.now a.bitmap.now a.row.now u (sym c.has_digit.ensures ∙ c.if-not-has_digit.false) c.place-at.ensures)) (done.kept e));
    }

pub put_in_branch-overflow_add-size : goal.put_in_branch-overflow_add-size
put_in_branch-overflow_add-size g t c =
    let R = g.K.Ord.cmp in
    let path = g.K.PathKey.path_of in
    let a = c.args in
    let d = c.digit-digit in
    let u = turn R path a.level (in_row a.size.now a.bitmap.now a.row.now) c.requires.trie c.requires.path d.ensures.value d.ensures.small in
    let there = (held_there a.row.now c.place-at.result c.index-row-at.result (place_in_row a.size.now a.bitmap.now a.row.now u (sym c.has_digit.ensures ∙ c.if-not-has_digit.false) c.place-at.ensures)) in
    let w = way_in_row a.size.now a.bitmap.now a.row.now u g.met.K.PathKey.exact (sym c.has_digit.ensures ∙ c.if-not-has_digit.false) c.place-at.ensures there in
    let node = c.put_in_at.new.node in
    let given = c.in_ok-done.ensures.ok.writes c.if-not-done.false in
    let after : c.size.result ≡ length (entries (tree node)) = c.size.ensures (trie_fits R path (a.level + 1) (tree node) given.trie) in
    omega (arith, w.counted, after, given.most, w.fewer, c.requires.room)

pub put_in_branch-overflow_sub-size : goal.put_in_branch-overflow_sub-size
put_in_branch-overflow_sub-size g t c =
    let R = g.K.Ord.cmp in
    let path = g.K.PathKey.path_of in
    let a = c.args in
    let d = c.digit-digit in
    let child = get_or a.row.now c.place-at.result c.index-row-at.result in
    let u = turn R path a.level (in_row a.size.now a.bitmap.now a.row.now) c.requires.trie c.requires.path d.ensures.value d.ensures.small in
    let there = (held_there a.row.now c.place-at.result c.index-row-at.result (place_in_row a.size.now a.bitmap.now a.row.now u (sym c.has_digit.ensures ∙ c.if-not-has_digit.false) c.place-at.ensures)) in
    let w = way_in_row a.size.now a.bitmap.now a.row.now u g.met.K.PathKey.exact (sym c.has_digit.ensures ∙ c.if-not-has_digit.false) c.place-at.ensures there in
    let before : c.size-before.result ≡ length (entries (tree child)) = c.size-before.ensures (trie_fits R path (a.level + 1) (tree child) w.trie) in
    omega (arith, before, w.fewer)

pub put_in_branch-returns-clause-ok : goal.put_in_branch-returns-clause-ok
put_in_branch-returns-clause-ok g t c =
    let R = g.K.Ord.cmp in
    let path = g.K.PathKey.path_of in
    let a = c.args in
    let d = c.digit-digit in
    let b = in_row a.size.now a.bitmap.now a.row.now in
    let s = a.entry.stamp.0 in
    let child = get_or a.row.now c.place-at.result c.index-row-at.result in
    let node = c.put_in_at.new.node in
    let u = turn R path a.level b c.requires.trie c.requires.path d.ensures.value d.ensures.small in
    let there = (held_there a.row.now c.place-at.result c.index-row-at.result (place_in_row a.size.now a.bitmap.now a.row.now u (sym c.has_digit.ensures ∙ c.if-not-has_digit.false) c.place-at.ensures)) in
    let w = way_in_row a.size.now a.bitmap.now a.row.now u g.met.K.PathKey.exact (sym c.has_digit.ensures ∙ c.if-not-has_digit.false) c.place-at.ensures there in
    let done = c.in_ok-done.ensures.ok in
    let given = done.writes c.if-not-done.false in
    let after : c.size.result ≡ length (entries (tree node)) = c.size.ensures (trie_fits R path (a.level + 1) (tree node) given.trie) in
    let before : c.size-before.result ≡ length (entries (tree child)) = c.size-before.ensures (trie_fits R path (a.level + 1) (tree child) w.trie) in
    record {
      previous_is = done.previous_is ∙ sym w.found;
      written_is = done.written_is ∙ ap (g.C.Condition.holds a.condition.now) (sym w.found);
      writes = λ e. child_put w g.met.K.Ord.total g.met.K.PathKey.exact a.stamp.now.0 s a.entry.pair.1 (tree node) given after before _
          (ap (λ xs. branch s (b.size + c.size.result - c.size-before.result) b.bitmap (trees xs)) (set_in_row (count_ones a.bitmap.now) a.row.now c.place-at.result (place_used a.size.now a.bitmap.now a.row.now u (sym c.has_digit.ensures ∙ c.if-not-has_digit.false) c.place-at.ensures) node));
      kept = λ e. absurd (true≢false (sym c.if-not-done.false ∙ e));
    }

pub put_in_node-returns-then-eq-clause-ok : goal.put_in_node-returns-then-eq-clause-ok
put_in_node-returns-then-eq-clause-ok g t c =
    let R = g.K.Ord.cmp in
    let path = g.K.PathKey.path_of in
    let a = c.args in
    let m = c.in-Leaf in
    let opened = (λ i. bucket (m.stamp-is i).0 (pair_values (m.pair-is i) ∷ [])) ∙ sym (ap tree m.is) in
    let tie = sym c.compare_keys.ensures ∙ equal_of_index c.compare_keys.result (sym c.eq.ensures ∙ c.if-eq.true) in
    let r = c.in_ok-put_in_pair-in-Leaf.field-0 in
    puts_leaf R g.met.K.Ord.total path g.met.K.PathKey.exact a.level a.entry.stamp.0 a.entry.pair.0 a.entry.pair.1 (g.C.Condition.holds a.condition.now) (tree a.node.now) _ _ _ _ (option_map g.S.ValueSlots.value_of r.previous) r.written
    opened tie c.requires.trie c.in_ok-put_in_pair-in-Leaf.ensures.ok

pub put_in_node-put_in_pairs-requires-clause-word : goal.put_in_node-put_in_pairs-requires-clause-word
put_in_node-put_in_pairs-requires-clause-word g t c =
    let R = g.K.Ord.cmp in
    let path = g.K.PathKey.path_of in
    let a = c.args in
    let m = c.in-Bucket in
    let held = c.as_slice.result.now in
    let items = c.in-Some.pairs.now.items in
    let is = c.in-Some.ensures.value ∙ ap arc_value m.pairs-is in
    let opened = (λ i. bucket (m.stamp-is i).0 (map pair_values (is i).items)) ∙ sym (ap tree m.is) in
    let same : held ≡ items = c.as_slice.ensures.value ∙ ap (λ v. v.items) (c.deref.ensures ∙ sym c.in-Some.ensures.value) in
    let trie = subst (IsTrie R path a.level) (sym opened) c.requires.trie in
    let words = subst (λ xs. KeysHaveWord R path trie.2.0 (map pair_values xs)) (sym same) trie.2.1 in
    subst (λ xs. KeysHaveWord R path (path a.entry.pair.0) (map pair_values xs)) same
    (subst (λ w. KeysHaveWord R path w (map pair_values held)) c.requires.path (c.have_path.ensures trie.2.0 words c.if-have_path.true))

pub put_in_node-returns-in-Some-clause-ok : goal.put_in_node-returns-in-Some-clause-ok
put_in_node-returns-in-Some-clause-ok g t c =
    let R = g.K.Ord.cmp in
    let path = g.K.PathKey.path_of in
    let a = c.args in
    let m = c.in-Bucket in
    let is = c.in-Some.ensures.value ∙ ap arc_value m.pairs-is in
    let opened = (λ i. bucket (m.stamp-is i).0 (map pair_values (is i).items)) ∙ sym (ap tree m.is) in
    let r = c.in_ok-put_in_pairs-in-Bucket.field-0 in
    puts_equal R path a.level a.entry.stamp.0 a.entry.pair.0 a.entry.pair.1 (g.C.Condition.holds a.condition.now) _ _ _ _ (option_map g.S.ValueSlots.value_of r.previous) r.written
    opened refl (c.in_ok-put_in_pairs-in-Bucket.ensures.ok a.level (subst (IsTrie R path a.level) (sym opened) c.requires.trie))

pub put_in_row-put_in_two-requires : goal.put_in_row-put_in_two-requires
put_in_row-put_in_two-requires g t c κs inside =
    let R = g.K.Ord.cmp in
    let path = g.K.PathKey.path_of in
    let a = c.args in
    let m = c.in-Two in
    let row = c.in-Some.ensures.value ∙ ap arc_value m.row-is in
    let opened = (λ i. branch_of (m.stamp-is i).0 (in_row (m.size-is i) (m.bitmap-is i) (row i))) ∙ sym (ap tree m.is ∙ tree-Two m.bitmap m.stamp m.size m.row) in
    (omega arith, (search rules, (search rules, (search rules, (search rules, (search rules, (search rules, (g.met.S.Slots.rows.0, (subst (IsTrie R path a.level) (sym opened) c.requires.trie, (c.requires.path, (subst (λ x. KeysAgree R path a.level a.entry.path.0 (entries x)) (sym opened) c.requires.agree, subst (λ x. length (entries x) < 2 ^ 63) (sym opened) c.requires.room)))))))))))

pub put_in_row-returns-in-Some-clause-ok : goal.put_in_row-returns-in-Some-clause-ok
put_in_row-returns-in-Some-clause-ok g t c =
    let R = g.K.Ord.cmp in
    let path = g.K.PathKey.path_of in
    let a = c.args in
    let m = c.in-Two in
    let row = c.in-Some.ensures.value ∙ ap arc_value m.row-is in
    let opened = (λ i. branch_of (m.stamp-is i).0 (in_row (m.size-is i) (m.bitmap-is i) (row i))) ∙ sym (ap tree m.is ∙ tree-Two m.bitmap m.stamp m.size m.row) in
    let n = c.put_in_two.new in
    on_ok c.put_in_two.result _ _ (λ r h. inside_equal g.S.ValueSlots.value_of R path a.level a.entry (g.C.Condition.holds a.condition.now) r opened (tree-Two n.bitmap n.stamp n.size (record m.row { value = n.row })) h) c.put_in_two.ensures.ok

pub put_in_row-returns-in-Some-clause-due : goal.put_in_row-returns-in-Some-clause-due
put_in_row-returns-in-Some-clause-due g t c =
    let a = c.args in
    let m = c.in-Two in
    let row = c.in-Some.ensures.value ∙ ap arc_value m.row-is in
    let opened = (λ i. branch_of (m.stamp-is i).0 (in_row (m.size-is i) (m.bitmap-is i) (row i))) ∙ sym (ap tree m.is ∙ tree-Two m.bitmap m.stamp m.size m.row) in
    on_err_weaker c.put_in_two.result (λ e. ap (λ x. is_refusable (g.C.Condition.holds a.condition.now) (find g.K.Ord.cmp a.entry.pair.0 (entries x))) (sym opened) ∙ e) c.put_in_two.ensures.due

pub put_in_row-returns-in-Some-clause-err : goal.put_in_row-returns-in-Some-clause-err
put_in_row-returns-in-Some-clause-err g t c =
    let m = c.in-Two in
    let row = c.in-Some.ensures.value ∙ ap arc_value m.row-is in
    let opened = (λ i. branch_of (m.stamp-is i).0 (in_row (m.size-is i) (m.bitmap-is i) (row i))) ∙ sym (ap tree m.is ∙ tree-Two m.bitmap m.stamp m.size m.row) in
    let n = c.put_in_two.new in
    on_err_weaker c.put_in_two.result (λ e. tree-Two n.bitmap n.stamp n.size (record m.row { value = n.row }) ∙ e ∙ opened) c.put_in_two.ensures.err

pub put_in_row-put_in_four-requires : goal.put_in_row-put_in_four-requires
put_in_row-put_in_four-requires g t c κs inside =
    let R = g.K.Ord.cmp in
    let path = g.K.PathKey.path_of in
    let a = c.args in
    let m = c.in-Four in
    let row = c.in-Some-get_mut.ensures.value ∙ ap arc_value m.row-is in
    let opened = (λ i. branch_of (m.stamp-is i).0 (in_row (m.size-is i) (m.bitmap-is i) (row i))) ∙ sym (ap tree m.is ∙ tree-Four m.bitmap m.stamp m.size m.row) in
    (omega arith, (search rules, (search rules, (search rules, (search rules, (search rules, (search rules, (g.met.S.Slots.rows.1, (subst (IsTrie R path a.level) (sym opened) c.requires.trie, (c.requires.path, (subst (λ x. KeysAgree R path a.level a.entry.path.0 (entries x)) (sym opened) c.requires.agree, subst (λ x. length (entries x) < 2 ^ 63) (sym opened) c.requires.room)))))))))))

pub put_in_row-returns-in-Some-get_mut-clause-ok : goal.put_in_row-returns-in-Some-get_mut-clause-ok
put_in_row-returns-in-Some-get_mut-clause-ok g t c =
    let R = g.K.Ord.cmp in
    let path = g.K.PathKey.path_of in
    let a = c.args in
    let m = c.in-Four in
    let row = c.in-Some-get_mut.ensures.value ∙ ap arc_value m.row-is in
    let opened = (λ i. branch_of (m.stamp-is i).0 (in_row (m.size-is i) (m.bitmap-is i) (row i))) ∙ sym (ap tree m.is ∙ tree-Four m.bitmap m.stamp m.size m.row) in
    let n = c.put_in_four.new in
    on_ok c.put_in_four.result _ _ (λ r h. inside_equal g.S.ValueSlots.value_of R path a.level a.entry (g.C.Condition.holds a.condition.now) r opened (tree-Four n.bitmap n.stamp n.size (record m.row { value = n.row })) h) c.put_in_four.ensures.ok

pub put_in_row-returns-in-Some-get_mut-clause-due : goal.put_in_row-returns-in-Some-get_mut-clause-due
put_in_row-returns-in-Some-get_mut-clause-due g t c =
    let a = c.args in
    let m = c.in-Four in
    let row = c.in-Some-get_mut.ensures.value ∙ ap arc_value m.row-is in
    let opened = (λ i. branch_of (m.stamp-is i).0 (in_row (m.size-is i) (m.bitmap-is i) (row i))) ∙ sym (ap tree m.is ∙ tree-Four m.bitmap m.stamp m.size m.row) in
    on_err_weaker c.put_in_four.result (λ e. ap (λ x. is_refusable (g.C.Condition.holds a.condition.now) (find g.K.Ord.cmp a.entry.pair.0 (entries x))) (sym opened) ∙ e) c.put_in_four.ensures.due

pub put_in_row-returns-in-Some-get_mut-clause-err : goal.put_in_row-returns-in-Some-get_mut-clause-err
put_in_row-returns-in-Some-get_mut-clause-err g t c =
    let m = c.in-Four in
    let row = c.in-Some-get_mut.ensures.value ∙ ap arc_value m.row-is in
    let opened = (λ i. branch_of (m.stamp-is i).0 (in_row (m.size-is i) (m.bitmap-is i) (row i))) ∙ sym (ap tree m.is ∙ tree-Four m.bitmap m.stamp m.size m.row) in
    let n = c.put_in_four.new in
    on_err_weaker c.put_in_four.result (λ e. tree-Four n.bitmap n.stamp n.size (record m.row { value = n.row }) ∙ e ∙ opened) c.put_in_four.ensures.err

pub put_in_row-put_in_eight-requires : goal.put_in_row-put_in_eight-requires
put_in_row-put_in_eight-requires g t c κs inside =
    let R = g.K.Ord.cmp in
    let path = g.K.PathKey.path_of in
    let a = c.args in
    let m = c.in-Eight in
    let row = c.in-Some-get_mut-2.ensures.value ∙ ap arc_value m.row-is in
    let opened = (λ i. branch_of (m.stamp-is i).0 (in_row (m.size-is i) (m.bitmap-is i) (row i))) ∙ sym (ap tree m.is ∙ tree-Eight m.bitmap m.stamp m.size m.row) in
    (omega arith, (search rules, (search rules, (search rules, (search rules, (search rules, (search rules, (g.met.S.Slots.rows.2, (subst (IsTrie R path a.level) (sym opened) c.requires.trie, (c.requires.path, (subst (λ x. KeysAgree R path a.level a.entry.path.0 (entries x)) (sym opened) c.requires.agree, subst (λ x. length (entries x) < 2 ^ 63) (sym opened) c.requires.room)))))))))))

pub put_in_row-returns-in-Some-get_mut-2-clause-ok : goal.put_in_row-returns-in-Some-get_mut-2-clause-ok
put_in_row-returns-in-Some-get_mut-2-clause-ok g t c =
    let R = g.K.Ord.cmp in
    let path = g.K.PathKey.path_of in
    let a = c.args in
    let m = c.in-Eight in
    let row = c.in-Some-get_mut-2.ensures.value ∙ ap arc_value m.row-is in
    let opened = (λ i. branch_of (m.stamp-is i).0 (in_row (m.size-is i) (m.bitmap-is i) (row i))) ∙ sym (ap tree m.is ∙ tree-Eight m.bitmap m.stamp m.size m.row) in
    let n = c.put_in_eight.new in
    on_ok c.put_in_eight.result _ _ (λ r h. inside_equal g.S.ValueSlots.value_of R path a.level a.entry (g.C.Condition.holds a.condition.now) r opened (tree-Eight n.bitmap n.stamp n.size (record m.row { value = n.row })) h) c.put_in_eight.ensures.ok

pub put_in_row-returns-in-Some-get_mut-2-clause-due : goal.put_in_row-returns-in-Some-get_mut-2-clause-due
put_in_row-returns-in-Some-get_mut-2-clause-due g t c =
    let a = c.args in
    let m = c.in-Eight in
    let row = c.in-Some-get_mut-2.ensures.value ∙ ap arc_value m.row-is in
    let opened = (λ i. branch_of (m.stamp-is i).0 (in_row (m.size-is i) (m.bitmap-is i) (row i))) ∙ sym (ap tree m.is ∙ tree-Eight m.bitmap m.stamp m.size m.row) in
    on_err_weaker c.put_in_eight.result (λ e. ap (λ x. is_refusable (g.C.Condition.holds a.condition.now) (find g.K.Ord.cmp a.entry.pair.0 (entries x))) (sym opened) ∙ e) c.put_in_eight.ensures.due

pub put_in_row-returns-in-Some-get_mut-2-clause-err : goal.put_in_row-returns-in-Some-get_mut-2-clause-err
put_in_row-returns-in-Some-get_mut-2-clause-err g t c =
    let m = c.in-Eight in
    let row = c.in-Some-get_mut-2.ensures.value ∙ ap arc_value m.row-is in
    let opened = (λ i. branch_of (m.stamp-is i).0 (in_row (m.size-is i) (m.bitmap-is i) (row i))) ∙ sym (ap tree m.is ∙ tree-Eight m.bitmap m.stamp m.size m.row) in
    let n = c.put_in_eight.new in
    on_err_weaker c.put_in_eight.result (λ e. tree-Eight n.bitmap n.stamp n.size (record m.row { value = n.row }) ∙ e ∙ opened) c.put_in_eight.ensures.err

pub put_in_long_row-put_in_sixteen-requires : goal.put_in_long_row-put_in_sixteen-requires
put_in_long_row-put_in_sixteen-requires g t c κs inside =
    let R = g.K.Ord.cmp in
    let path = g.K.PathKey.path_of in
    let a = c.args in
    let m = c.in-Sixteen in
    let row = c.in-Some.ensures.value ∙ ap arc_value m.row-is in
    let opened = (λ i. branch_of (m.stamp-is i).0 (in_row (m.size-is i) (m.bitmap-is i) (row i))) ∙ sym (ap tree m.is ∙ tree-Sixteen m.bitmap m.stamp m.size m.row) in
    (omega arith, (search rules, (search rules, (search rules, (search rules, (search rules, (search rules, (g.met.S.Slots.rows.3, (subst (IsTrie R path a.level) (sym opened) c.requires.trie, (c.requires.path, (subst (λ x. KeysAgree R path a.level a.entry.path.0 (entries x)) (sym opened) c.requires.agree, subst (λ x. length (entries x) < 2 ^ 63) (sym opened) c.requires.room)))))))))))

pub put_in_long_row-returns-in-Some-clause-ok : goal.put_in_long_row-returns-in-Some-clause-ok
put_in_long_row-returns-in-Some-clause-ok g t c =
    let R = g.K.Ord.cmp in
    let path = g.K.PathKey.path_of in
    let a = c.args in
    let m = c.in-Sixteen in
    let row = c.in-Some.ensures.value ∙ ap arc_value m.row-is in
    let opened = (λ i. branch_of (m.stamp-is i).0 (in_row (m.size-is i) (m.bitmap-is i) (row i))) ∙ sym (ap tree m.is ∙ tree-Sixteen m.bitmap m.stamp m.size m.row) in
    let n = c.put_in_sixteen.new in
    on_ok c.put_in_sixteen.result _ _ (λ r h. inside_equal g.S.ValueSlots.value_of R path a.level a.entry (g.C.Condition.holds a.condition.now) r opened (tree-Sixteen n.bitmap n.stamp n.size (record m.row { value = n.row })) h) c.put_in_sixteen.ensures.ok

pub put_in_long_row-returns-in-Some-clause-due : goal.put_in_long_row-returns-in-Some-clause-due
put_in_long_row-returns-in-Some-clause-due g t c =
    let a = c.args in
    let m = c.in-Sixteen in
    let row = c.in-Some.ensures.value ∙ ap arc_value m.row-is in
    let opened = (λ i. branch_of (m.stamp-is i).0 (in_row (m.size-is i) (m.bitmap-is i) (row i))) ∙ sym (ap tree m.is ∙ tree-Sixteen m.bitmap m.stamp m.size m.row) in
    on_err_weaker c.put_in_sixteen.result (λ e. ap (λ x. is_refusable (g.C.Condition.holds a.condition.now) (find g.K.Ord.cmp a.entry.pair.0 (entries x))) (sym opened) ∙ e) c.put_in_sixteen.ensures.due

pub put_in_long_row-returns-in-Some-clause-err : goal.put_in_long_row-returns-in-Some-clause-err
put_in_long_row-returns-in-Some-clause-err g t c =
    let m = c.in-Sixteen in
    let row = c.in-Some.ensures.value ∙ ap arc_value m.row-is in
    let opened = (λ i. branch_of (m.stamp-is i).0 (in_row (m.size-is i) (m.bitmap-is i) (row i))) ∙ sym (ap tree m.is ∙ tree-Sixteen m.bitmap m.stamp m.size m.row) in
    let n = c.put_in_sixteen.new in
    on_err_weaker c.put_in_sixteen.result (λ e. tree-Sixteen n.bitmap n.stamp n.size (record m.row { value = n.row }) ∙ e ∙ opened) c.put_in_sixteen.ensures.err

pub put_in_long_row-put_in_all-requires : goal.put_in_long_row-put_in_all-requires
put_in_long_row-put_in_all-requires g t c κs inside =
    let R = g.K.Ord.cmp in
    let path = g.K.PathKey.path_of in
    let a = c.args in
    let m = c.in-All in
    let row = c.in-Some-get_mut.ensures.value ∙ ap arc_value m.row-is in
    let opened = (λ i. branch_of (m.stamp-is i).0 (in_row (m.size-is i) (m.bitmap-is i) (row i))) ∙ sym (ap tree m.is ∙ tree-All m.bitmap m.stamp m.size m.row) in
    (omega arith, (search rules, (search rules, (search rules, (search rules, (search rules, (search rules, (g.met.S.Slots.rows.4, (subst (IsTrie R path a.level) (sym opened) c.requires.trie, (c.requires.path, (subst (λ x. KeysAgree R path a.level a.entry.path.0 (entries x)) (sym opened) c.requires.agree, subst (λ x. length (entries x) < 2 ^ 63) (sym opened) c.requires.room)))))))))))

pub put_in_long_row-returns-in-Some-get_mut-clause-ok : goal.put_in_long_row-returns-in-Some-get_mut-clause-ok
put_in_long_row-returns-in-Some-get_mut-clause-ok g t c =
    let R = g.K.Ord.cmp in
    let path = g.K.PathKey.path_of in
    let a = c.args in
    let m = c.in-All in
    let row = c.in-Some-get_mut.ensures.value ∙ ap arc_value m.row-is in
    let opened = (λ i. branch_of (m.stamp-is i).0 (in_row (m.size-is i) (m.bitmap-is i) (row i))) ∙ sym (ap tree m.is ∙ tree-All m.bitmap m.stamp m.size m.row) in
    let n = c.put_in_all.new in
    on_ok c.put_in_all.result _ _ (λ r h. inside_equal g.S.ValueSlots.value_of R path a.level a.entry (g.C.Condition.holds a.condition.now) r opened (tree-All n.bitmap n.stamp n.size (record m.row { value = n.row })) h) c.put_in_all.ensures.ok

pub put_in_long_row-returns-in-Some-get_mut-clause-due : goal.put_in_long_row-returns-in-Some-get_mut-clause-due
put_in_long_row-returns-in-Some-get_mut-clause-due g t c =
    let a = c.args in
    let m = c.in-All in
    let row = c.in-Some-get_mut.ensures.value ∙ ap arc_value m.row-is in
    let opened = (λ i. branch_of (m.stamp-is i).0 (in_row (m.size-is i) (m.bitmap-is i) (row i))) ∙ sym (ap tree m.is ∙ tree-All m.bitmap m.stamp m.size m.row) in
    on_err_weaker c.put_in_all.result (λ e. ap (λ x. is_refusable (g.C.Condition.holds a.condition.now) (find g.K.Ord.cmp a.entry.pair.0 (entries x))) (sym opened) ∙ e) c.put_in_all.ensures.due

pub put_in_long_row-returns-in-Some-get_mut-clause-err : goal.put_in_long_row-returns-in-Some-get_mut-clause-err
put_in_long_row-returns-in-Some-get_mut-clause-err g t c =
    let m = c.in-All in
    let row = c.in-Some-get_mut.ensures.value ∙ ap arc_value m.row-is in
    let opened = (λ i. branch_of (m.stamp-is i).0 (in_row (m.size-is i) (m.bitmap-is i) (row i))) ∙ sym (ap tree m.is ∙ tree-All m.bitmap m.stamp m.size m.row) in
    let n = c.put_in_all.new in
    on_err_weaker c.put_in_all.result (λ e. tree-All n.bitmap n.stamp n.size (record m.row { value = n.row }) ∙ e ∙ opened) c.put_in_all.ensures.err

pub put_in_branch-offset_bounds-row-at : goal.put_in_branch-offset_bounds-row-at
put_in_branch-offset_bounds-row-at g t c =
    let a = c.args in
    let d = c.digit-digit in
    let u = turn g.K.Ord.cmp g.K.PathKey.path_of a.level (in_row a.size.now a.bitmap.now a.row.now) c.requires.trie c.requires.path d.ensures.value d.ensures.small in
    omega (arith, place_fits a.bitmap.now c.place-at.result (node_size g.row.S-Key g.row.S-Value) c.requires.trie.1 (place_used a.size.now a.bitmap.now a.row.now u (sym c.has_digit.ensures ∙ c.if-not-has_digit.false) c.place-at.ensures) g.met.S.Slots.rows.4)
