use Rattle.std.proofs.Common.{rules, is_some, option_map, ◌+◌, map, get_or, refl, sym, ap, ◌∙◌, subst, arith}
use Rattle.std.specs.Arc.{arc_value}
use Rattle.std.specs.FinMap.{find}
use Rattle.std.specs.Int.RustNames.{count_ones}
use Rattle.std.proofs.lemmas.List.{length-set}
use Rattle.std.proofs.lemmas.Result.{on_err_weaker}
use Rattle.slots.specs.Rows.{node_size}
use Rattle.trie_shape.specs.Tree.{IsTrie, branch, bucket, trees, entries}
use Rattle.trie_shape.specs.View.{tree, branch_of, in_row, pair_values}
use Rattle.trie_shape.proofs.Views.{on_ok, tree-Two, tree-Four, tree-Eight, tree-Sixteen, tree-All}
use Rattle.trie_shape.proofs.Ways.{turn}
use Rattle.trie_removals.specs.RemovalInPlace.{TakesOut, TakesInside}
use Rattle.trie_removals.specs.declared.removal_in_place.TakenInside.TheVariants.{Done}
use Rattle.trie_copy.proofs.InRows.{place_fits, row_has, place_used, place_in_row, way_in_row, held_there, set_in_row, same_in_row}
use Rattle.trie_contraction.proofs.Removing.{absent_below, nothing_below}
use Rattle.trie_removals.proofs.RemovingInPlace.{size_where_gone, size_where_left, gone_in_place, left_in_place}
use Rattle.trie_copy.proofs.Cases.{at_err}
use Rattle.trie_removals.proofs.RemovingInPlace.{takes_equal}
use Rattle.trie_removals.proofs.removal_in_place.+remove_in.Goals as goal

pub remove_in_branch-returns-then-not-has_digit-clause-ok : goal.remove_in_branch-returns-then-not-has_digit-clause-ok
remove_in_branch-returns-then-not-has_digit-clause-ok g t c =
    let a = c.args in
    let d = c.digit-digit in
    let u = turn g.K.Ord.cmp g.K.PathKey.path_of a.level (in_row a.size.now a.bitmap.now a.row.now) c.requires.trie c.requires.path d.ensures.value d.ensures.small in
    let holds = g.C.Condition.holds a.condition.now in
    let none = absent_below u g.met.K.Ord.total g.met.K.PathKey.exact a.stamp.now.0 a.new_stamp.0 holds (sym c.has_digit.ensures ∙ c.if-not-has_digit.true) in
    (none.0, none.1, refl)

pub remove_in_branch-bounds-row-at : goal.remove_in_branch-bounds-row-at
remove_in_branch-bounds-row-at g t c =
    let a = c.args in
    let d = c.digit-digit in
    let u = turn g.K.Ord.cmp g.K.PathKey.path_of a.level (in_row a.size.now a.bitmap.now a.row.now) c.requires.trie c.requires.path d.ensures.value d.ensures.small in
    place_in_row a.size.now a.bitmap.now a.row.now u (sym c.has_digit.ensures ∙ c.if-not-has_digit.false) c.place-at.ensures

pub remove_in_branch-overflow_add-level : goal.remove_in_branch-overflow_add-level
remove_in_branch-overflow_add-level g t c =
    omega (arith, c.requires.trie.0)

pub remove_in_branch-remove_in_at-requires : goal.remove_in_branch-remove_in_at-requires
remove_in_branch-remove_in_at-requires g t c κs inside =
    let a = c.args in
    let d = c.digit-digit in
    let u = turn g.K.Ord.cmp g.K.PathKey.path_of a.level (in_row a.size.now a.bitmap.now a.row.now) c.requires.trie c.requires.path d.ensures.value d.ensures.small in
    let has = sym c.has_digit.ensures ∙ c.if-not-has_digit.false in
    let there = held_there a.row.now c.place-at.result c.index-row-at.result (place_in_row a.size.now a.bitmap.now a.row.now u has c.place-at.ensures) in
    let w = way_in_row a.size.now a.bitmap.now a.row.now u g.met.K.PathKey.exact has c.place-at.ensures there in
    (omega (arith, w.above), (search rules, (search rules, (search rules, (search rules, (search rules, (search rules, (search rules, (c.requires.path, w.trie)))))))))

pub remove_in_branch-returns-in_err-found-clause-err : goal.remove_in_branch-returns-in_err-found-clause-err
remove_in_branch-returns-in_err-found-clause-err g t c =
    let a = c.args in
    let d = c.digit-digit in
    let u = turn g.K.Ord.cmp g.K.PathKey.path_of a.level (in_row a.size.now a.bitmap.now a.row.now) c.requires.trie c.requires.path d.ensures.value d.ensures.small in
    let has = sym c.has_digit.ensures ∙ c.if-not-has_digit.false in
    let there = held_there a.row.now c.place-at.result c.index-row-at.result (place_in_row a.size.now a.bitmap.now a.row.now u has c.place-at.ensures) in
    let used = place_used a.size.now a.bitmap.now a.row.now u has c.place-at.ensures in
    let child = get_or a.row.now c.place-at.result c.index-row-at.result in
    at_err c.from_residual.result (ap (λ xs. branch a.stamp.now.0 a.size.now a.bitmap.now (trees xs)) (same_in_row (count_ones a.bitmap.now) a.row.now c.place-at.result used c.remove_in_at.new.node child there c.in_err-found.ensures.err))

pub remove_in_branch-returns-in_err-found-clause-due : goal.remove_in_branch-returns-in_err-found-clause-due
remove_in_branch-returns-in_err-found-clause-due g t c =
    let a = c.args in
    let d = c.digit-digit in
    let u = turn g.K.Ord.cmp g.K.PathKey.path_of a.level (in_row a.size.now a.bitmap.now a.row.now) c.requires.trie c.requires.path d.ensures.value d.ensures.small in
    let has = sym c.has_digit.ensures ∙ c.if-not-has_digit.false in
    let there = held_there a.row.now c.place-at.result c.index-row-at.result (place_in_row a.size.now a.bitmap.now a.row.now u has c.place-at.ensures) in
    let w = way_in_row a.size.now a.bitmap.now a.row.now u g.met.K.PathKey.exact has c.place-at.ensures there in
    at_err c.from_residual.result (ap is_some w.found ∙ c.in_err-found.ensures.due)

pub remove_in_branch-returns-in-Nothing-clause-ok : goal.remove_in_branch-returns-in-Nothing-clause-ok
remove_in_branch-returns-in-Nothing-clause-ok g t c =
    let a = c.args in
    let d = c.digit-digit in
    let u = turn g.K.Ord.cmp g.K.PathKey.path_of a.level (in_row a.size.now a.bitmap.now a.row.now) c.requires.trie c.requires.path d.ensures.value d.ensures.small in
    let has = sym c.has_digit.ensures ∙ c.if-not-has_digit.false in
    let there = held_there a.row.now c.place-at.result c.index-row-at.result (place_in_row a.size.now a.bitmap.now a.row.now u has c.place-at.ensures) in
    let w = way_in_row a.size.now a.bitmap.now a.row.now u g.met.K.PathKey.exact has c.place-at.ensures there in
    let used = place_used a.size.now a.bitmap.now a.row.now u has c.place-at.ensures in
    let child = get_or a.row.now c.place-at.result c.index-row-at.result in
    let s = a.new_stamp.0 in
    let holds = g.C.Condition.holds a.condition.now in
    let h = subst (λ r. TakesOut g.S.ValueSlots.value_of g.K.Ord.cmp g.K.PathKey.path_of (a.level + 1) s (g.Q.Sought.key_of a.key) holds (tree child) r (tree c.remove_in_at.new.node)) c.in-Nothing.is c.in_ok-found.ensures.ok in
    let nothing = nothing_below w g.met.K.Ord.total g.met.K.PathKey.exact a.stamp.now.0 s holds (option_map g.S.ValueSlots.value_of c.in-Nothing.found) (h.0, h.1) in
    (nothing.0, nothing.1, ap (λ xs. branch a.stamp.now.0 a.size.now a.bitmap.now (trees xs)) (same_in_row (count_ones a.bitmap.now) a.row.now c.place-at.result used c.remove_in_at.new.node child there h.2))

pub remove_in_branch-lose_child-requires-clause-at : goal.remove_in_branch-lose_child-requires-clause-at
remove_in_branch-lose_child-requires-clause-at g t c =
    let a = c.args in
    let d = c.digit-digit in
    let u = turn g.K.Ord.cmp g.K.PathKey.path_of a.level (in_row a.size.now a.bitmap.now a.row.now) c.requires.trie c.requires.path d.ensures.value d.ensures.small in
    place_used a.size.now a.bitmap.now a.row.now u (sym c.has_digit.ensures ∙ c.if-not-has_digit.false) c.place-at.ensures

pub remove_in_branch-lose_child-requires-clause-row : goal.remove_in_branch-lose_child-requires-clause-row
remove_in_branch-lose_child-requires-clause-row g t c =
    let a = c.args in
    let d = c.digit-digit in
    let u = turn g.K.Ord.cmp g.K.PathKey.path_of a.level (in_row a.size.now a.bitmap.now a.row.now) c.requires.trie c.requires.path d.ensures.value d.ensures.small in
    omega (arith, length-set a.row.now c.place-at.result c.remove_in_at.new.node, row_has a.size.now a.bitmap.now a.row.now u)

pub remove_in_branch-count_out-requires-clause-row : goal.remove_in_branch-count_out-requires-clause-row
remove_in_branch-count_out-requires-clause-row g t c =
    let a = c.args in
    let d = c.digit-digit in
    let u = turn g.K.Ord.cmp g.K.PathKey.path_of a.level (in_row a.size.now a.bitmap.now a.row.now) c.requires.trie c.requires.path d.ensures.value d.ensures.small in
    omega (arith, length-set a.row.now c.place-at.result c.remove_in_at.new.node, row_has a.size.now a.bitmap.now a.row.now u)

pub remove_in_branch-lose_child-requires-clause-size : goal.remove_in_branch-lose_child-requires-clause-size
remove_in_branch-lose_child-requires-clause-size g t c =
    let a = c.args in
    let d = c.digit-digit in
    let u = turn g.K.Ord.cmp g.K.PathKey.path_of a.level (in_row a.size.now a.bitmap.now a.row.now) c.requires.trie c.requires.path d.ensures.value d.ensures.small in
    let has = sym c.has_digit.ensures ∙ c.if-not-has_digit.false in
    let there = held_there a.row.now c.place-at.result c.index-row-at.result (place_in_row a.size.now a.bitmap.now a.row.now u has c.place-at.ensures) in
    let w = way_in_row a.size.now a.bitmap.now a.row.now u g.met.K.PathKey.exact has c.place-at.ensures there in
    size_where_gone g.S.ValueSlots.value_of w g.met.K.Ord.total g.met.K.PathKey.exact a.stamp.now.0 a.new_stamp.0 (g.C.Condition.holds a.condition.now) c.remove_in_at.new.node _ c.in_ok-found.ensures.ok c.in-Gone.is

pub remove_in_branch-count_out-requires-clause-size : goal.remove_in_branch-count_out-requires-clause-size
remove_in_branch-count_out-requires-clause-size g t c =
    let a = c.args in
    let d = c.digit-digit in
    let u = turn g.K.Ord.cmp g.K.PathKey.path_of a.level (in_row a.size.now a.bitmap.now a.row.now) c.requires.trie c.requires.path d.ensures.value d.ensures.small in
    let has = sym c.has_digit.ensures ∙ c.if-not-has_digit.false in
    let there = held_there a.row.now c.place-at.result c.index-row-at.result (place_in_row a.size.now a.bitmap.now a.row.now u has c.place-at.ensures) in
    let w = way_in_row a.size.now a.bitmap.now a.row.now u g.met.K.PathKey.exact has c.place-at.ensures there in
    size_where_left g.S.ValueSlots.value_of w g.met.K.Ord.total g.met.K.PathKey.exact a.stamp.now.0 a.new_stamp.0 (g.C.Condition.holds a.condition.now) c.remove_in_at.new.node _ c.in_ok-found.ensures.ok c.in-Left.is

pub remove_in_branch-returns-in-Some-clause-ok : goal.remove_in_branch-returns-in-Some-clause-ok
remove_in_branch-returns-in-Some-clause-ok g t c =
    let a = c.args in
    let d = c.digit-digit in
    let u = turn g.K.Ord.cmp g.K.PathKey.path_of a.level (in_row a.size.now a.bitmap.now a.row.now) c.requires.trie c.requires.path d.ensures.value d.ensures.small in
    let has = sym c.has_digit.ensures ∙ c.if-not-has_digit.false in
    let there = held_there a.row.now c.place-at.result c.index-row-at.result (place_in_row a.size.now a.bitmap.now a.row.now u has c.place-at.ensures) in
    let w = way_in_row a.size.now a.bitmap.now a.row.now u g.met.K.PathKey.exact has c.place-at.ensures there in
    let used = place_used a.size.now a.bitmap.now a.row.now u has c.place-at.ensures in
    let written = set_in_row (count_ones a.bitmap.now) a.row.now c.place-at.result used c.remove_in_at.new.node in
    gone_in_place g.S.ValueSlots.value_of w g.met.K.Ord.total g.met.K.PathKey.exact a.stamp.now.0 a.new_stamp.0 (g.C.Condition.holds a.condition.now) c.remove_in_at.new.node _ c.in_ok-found.ensures.ok c.in-Gone.is _ written _ c.in-Some.ensures.gives

pub remove_in_branch-returns-in-None-clause-ok : goal.remove_in_branch-returns-in-None-clause-ok
remove_in_branch-returns-in-None-clause-ok g t c =
    let a = c.args in
    let d = c.digit-digit in
    let u = turn g.K.Ord.cmp g.K.PathKey.path_of a.level (in_row a.size.now a.bitmap.now a.row.now) c.requires.trie c.requires.path d.ensures.value d.ensures.small in
    let has = sym c.has_digit.ensures ∙ c.if-not-has_digit.false in
    let there = held_there a.row.now c.place-at.result c.index-row-at.result (place_in_row a.size.now a.bitmap.now a.row.now u has c.place-at.ensures) in
    let w = way_in_row a.size.now a.bitmap.now a.row.now u g.met.K.PathKey.exact has c.place-at.ensures there in
    let used = place_used a.size.now a.bitmap.now a.row.now u has c.place-at.ensures in
    let written = set_in_row (count_ones a.bitmap.now) a.row.now c.place-at.result used c.remove_in_at.new.node in
    gone_in_place g.S.ValueSlots.value_of w g.met.K.Ord.total g.met.K.PathKey.exact a.stamp.now.0 a.new_stamp.0 (g.C.Condition.holds a.condition.now) c.remove_in_at.new.node _ c.in_ok-found.ensures.ok c.in-Gone.is _ written _ c.in-None.ensures.stays

pub remove_in_branch-returns-in-Some-count_out-clause-ok : goal.remove_in_branch-returns-in-Some-count_out-clause-ok
remove_in_branch-returns-in-Some-count_out-clause-ok g t c =
    let a = c.args in
    let d = c.digit-digit in
    let u = turn g.K.Ord.cmp g.K.PathKey.path_of a.level (in_row a.size.now a.bitmap.now a.row.now) c.requires.trie c.requires.path d.ensures.value d.ensures.small in
    let has = sym c.has_digit.ensures ∙ c.if-not-has_digit.false in
    let there = held_there a.row.now c.place-at.result c.index-row-at.result (place_in_row a.size.now a.bitmap.now a.row.now u has c.place-at.ensures) in
    let w = way_in_row a.size.now a.bitmap.now a.row.now u g.met.K.PathKey.exact has c.place-at.ensures there in
    let used = place_used a.size.now a.bitmap.now a.row.now u has c.place-at.ensures in
    let written = set_in_row (count_ones a.bitmap.now) a.row.now c.place-at.result used c.remove_in_at.new.node in
    left_in_place g.S.ValueSlots.value_of w g.met.K.Ord.total g.met.K.PathKey.exact a.stamp.now.0 a.new_stamp.0 (g.C.Condition.holds a.condition.now) c.remove_in_at.new.node _ c.in_ok-found.ensures.ok c.in-Left.is _ written _ c.in-Some-count_out.ensures.gives

pub remove_in_branch-returns-in-None-count_out-clause-ok : goal.remove_in_branch-returns-in-None-count_out-clause-ok
remove_in_branch-returns-in-None-count_out-clause-ok g t c =
    let a = c.args in
    let d = c.digit-digit in
    let u = turn g.K.Ord.cmp g.K.PathKey.path_of a.level (in_row a.size.now a.bitmap.now a.row.now) c.requires.trie c.requires.path d.ensures.value d.ensures.small in
    let has = sym c.has_digit.ensures ∙ c.if-not-has_digit.false in
    let there = held_there a.row.now c.place-at.result c.index-row-at.result (place_in_row a.size.now a.bitmap.now a.row.now u has c.place-at.ensures) in
    let w = way_in_row a.size.now a.bitmap.now a.row.now u g.met.K.PathKey.exact has c.place-at.ensures there in
    let used = place_used a.size.now a.bitmap.now a.row.now u has c.place-at.ensures in
    let written = set_in_row (count_ones a.bitmap.now) a.row.now c.place-at.result used c.remove_in_at.new.node in
    left_in_place g.S.ValueSlots.value_of w g.met.K.Ord.total g.met.K.PathKey.exact a.stamp.now.0 a.new_stamp.0 (g.C.Condition.holds a.condition.now) c.remove_in_at.new.node _ c.in_ok-found.ensures.ok c.in-Left.is _ written _ c.in-None-count_out.ensures.stays

pub remove_in_row-remove_in_two-requires : goal.remove_in_row-remove_in_two-requires
remove_in_row-remove_in_two-requires g t c κs inside =
    let R = g.K.Ord.cmp in
    let path = g.K.PathKey.path_of in
    let a = c.args in
    let m = c.in-Two in
    let row = c.in-Some.ensures.value ∙ ap arc_value m.row-is in
    let opened = (λ i. branch_of (m.old-is i).0 (in_row (m.size-is i) (m.bitmap-is i) (row i))) ∙ sym (ap tree m.is ∙ tree-Two m.bitmap m.old m.size m.row) in
    (omega arith, (search rules, (search rules, (search rules, (search rules, (search rules, (search rules, (search rules, (g.met.S.Slots.rows.0, (c.requires.path, subst (IsTrie R path a.level) (sym opened) c.requires.trie))))))))))

pub remove_in_row-returns-in-Some-clause-ok : goal.remove_in_row-returns-in-Some-clause-ok
remove_in_row-returns-in-Some-clause-ok g t c =
    let a = c.args in
    let m = c.in-Two in
    let row = c.in-Some.ensures.value ∙ ap arc_value m.row-is in
    let opened = (λ i. branch_of (m.old-is i).0 (in_row (m.size-is i) (m.bitmap-is i) (row i))) ∙ sym (ap tree m.is ∙ tree-Two m.bitmap m.old m.size m.row) in
    let n = c.remove_in_two.new in
    let made = tree-Two n.bitmap n.stamp n.size (record m.row { value = n.row }) in
    on_ok c.remove_in_two.result _ _ (λ r h. takes_equal g.S.ValueSlots.value_of g.K.Ord.cmp g.K.PathKey.path_of a.level a.stamp.0 (g.Q.Sought.key_of a.key) (g.C.Condition.holds a.condition.now) _ _ _ _ r opened made h) c.remove_in_two.ensures.ok

pub remove_in_row-returns-in-Some-clause-due : goal.remove_in_row-returns-in-Some-clause-due
remove_in_row-returns-in-Some-clause-due g t c =
    let a = c.args in
    let m = c.in-Two in
    let row = c.in-Some.ensures.value ∙ ap arc_value m.row-is in
    let opened = (λ i. branch_of (m.old-is i).0 (in_row (m.size-is i) (m.bitmap-is i) (row i))) ∙ sym (ap tree m.is ∙ tree-Two m.bitmap m.old m.size m.row) in
    on_err_weaker c.remove_in_two.result (λ e. ap (λ x. is_some (find g.K.Ord.cmp (g.Q.Sought.key_of a.key) (entries x))) (sym opened) ∙ e) c.remove_in_two.ensures.due

pub remove_in_row-returns-in-Some-clause-err : goal.remove_in_row-returns-in-Some-clause-err
remove_in_row-returns-in-Some-clause-err g t c =
    let m = c.in-Two in
    let row = c.in-Some.ensures.value ∙ ap arc_value m.row-is in
    let opened = (λ i. branch_of (m.old-is i).0 (in_row (m.size-is i) (m.bitmap-is i) (row i))) ∙ sym (ap tree m.is ∙ tree-Two m.bitmap m.old m.size m.row) in
    let n = c.remove_in_two.new in
    let made = tree-Two n.bitmap n.stamp n.size (record m.row { value = n.row }) in
    on_err_weaker c.remove_in_two.result (λ e. made ∙ e ∙ opened) c.remove_in_two.ensures.err

pub remove_in_row-remove_in_four-requires : goal.remove_in_row-remove_in_four-requires
remove_in_row-remove_in_four-requires g t c κs inside =
    let R = g.K.Ord.cmp in
    let path = g.K.PathKey.path_of in
    let a = c.args in
    let m = c.in-Four in
    let row = c.in-Some-get_mut.ensures.value ∙ ap arc_value m.row-is in
    let opened = (λ i. branch_of (m.old-is i).0 (in_row (m.size-is i) (m.bitmap-is i) (row i))) ∙ sym (ap tree m.is ∙ tree-Four m.bitmap m.old m.size m.row) in
    (omega arith, (search rules, (search rules, (search rules, (search rules, (search rules, (search rules, (search rules, (g.met.S.Slots.rows.1, (c.requires.path, subst (IsTrie R path a.level) (sym opened) c.requires.trie))))))))))

pub remove_in_row-returns-in-Some-get_mut-clause-ok : goal.remove_in_row-returns-in-Some-get_mut-clause-ok
remove_in_row-returns-in-Some-get_mut-clause-ok g t c =
    let a = c.args in
    let m = c.in-Four in
    let row = c.in-Some-get_mut.ensures.value ∙ ap arc_value m.row-is in
    let opened = (λ i. branch_of (m.old-is i).0 (in_row (m.size-is i) (m.bitmap-is i) (row i))) ∙ sym (ap tree m.is ∙ tree-Four m.bitmap m.old m.size m.row) in
    let n = c.remove_in_four.new in
    let made = tree-Four n.bitmap n.stamp n.size (record m.row { value = n.row }) in
    on_ok c.remove_in_four.result _ _ (λ r h. takes_equal g.S.ValueSlots.value_of g.K.Ord.cmp g.K.PathKey.path_of a.level a.stamp.0 (g.Q.Sought.key_of a.key) (g.C.Condition.holds a.condition.now) _ _ _ _ r opened made h) c.remove_in_four.ensures.ok

pub remove_in_row-returns-in-Some-get_mut-clause-due : goal.remove_in_row-returns-in-Some-get_mut-clause-due
remove_in_row-returns-in-Some-get_mut-clause-due g t c =
    let a = c.args in
    let m = c.in-Four in
    let row = c.in-Some-get_mut.ensures.value ∙ ap arc_value m.row-is in
    let opened = (λ i. branch_of (m.old-is i).0 (in_row (m.size-is i) (m.bitmap-is i) (row i))) ∙ sym (ap tree m.is ∙ tree-Four m.bitmap m.old m.size m.row) in
    on_err_weaker c.remove_in_four.result (λ e. ap (λ x. is_some (find g.K.Ord.cmp (g.Q.Sought.key_of a.key) (entries x))) (sym opened) ∙ e) c.remove_in_four.ensures.due

pub remove_in_row-returns-in-Some-get_mut-clause-err : goal.remove_in_row-returns-in-Some-get_mut-clause-err
remove_in_row-returns-in-Some-get_mut-clause-err g t c =
    let m = c.in-Four in
    let row = c.in-Some-get_mut.ensures.value ∙ ap arc_value m.row-is in
    let opened = (λ i. branch_of (m.old-is i).0 (in_row (m.size-is i) (m.bitmap-is i) (row i))) ∙ sym (ap tree m.is ∙ tree-Four m.bitmap m.old m.size m.row) in
    let n = c.remove_in_four.new in
    let made = tree-Four n.bitmap n.stamp n.size (record m.row { value = n.row }) in
    on_err_weaker c.remove_in_four.result (λ e. made ∙ e ∙ opened) c.remove_in_four.ensures.err

pub remove_in_row-remove_in_eight-requires : goal.remove_in_row-remove_in_eight-requires
remove_in_row-remove_in_eight-requires g t c κs inside =
    let R = g.K.Ord.cmp in
    let path = g.K.PathKey.path_of in
    let a = c.args in
    let m = c.in-Eight in
    let row = c.in-Some-get_mut-2.ensures.value ∙ ap arc_value m.row-is in
    let opened = (λ i. branch_of (m.old-is i).0 (in_row (m.size-is i) (m.bitmap-is i) (row i))) ∙ sym (ap tree m.is ∙ tree-Eight m.bitmap m.old m.size m.row) in
    (omega arith, (search rules, (search rules, (search rules, (search rules, (search rules, (search rules, (search rules, (g.met.S.Slots.rows.2, (c.requires.path, subst (IsTrie R path a.level) (sym opened) c.requires.trie))))))))))

pub remove_in_row-returns-in-Some-get_mut-2-clause-ok : goal.remove_in_row-returns-in-Some-get_mut-2-clause-ok
remove_in_row-returns-in-Some-get_mut-2-clause-ok g t c =
    let a = c.args in
    let m = c.in-Eight in
    let row = c.in-Some-get_mut-2.ensures.value ∙ ap arc_value m.row-is in
    let opened = (λ i. branch_of (m.old-is i).0 (in_row (m.size-is i) (m.bitmap-is i) (row i))) ∙ sym (ap tree m.is ∙ tree-Eight m.bitmap m.old m.size m.row) in
    let n = c.remove_in_eight.new in
    let made = tree-Eight n.bitmap n.stamp n.size (record m.row { value = n.row }) in
    on_ok c.remove_in_eight.result _ _ (λ r h. takes_equal g.S.ValueSlots.value_of g.K.Ord.cmp g.K.PathKey.path_of a.level a.stamp.0 (g.Q.Sought.key_of a.key) (g.C.Condition.holds a.condition.now) _ _ _ _ r opened made h) c.remove_in_eight.ensures.ok

pub remove_in_row-returns-in-Some-get_mut-2-clause-due : goal.remove_in_row-returns-in-Some-get_mut-2-clause-due
remove_in_row-returns-in-Some-get_mut-2-clause-due g t c =
    let a = c.args in
    let m = c.in-Eight in
    let row = c.in-Some-get_mut-2.ensures.value ∙ ap arc_value m.row-is in
    let opened = (λ i. branch_of (m.old-is i).0 (in_row (m.size-is i) (m.bitmap-is i) (row i))) ∙ sym (ap tree m.is ∙ tree-Eight m.bitmap m.old m.size m.row) in
    on_err_weaker c.remove_in_eight.result (λ e. ap (λ x. is_some (find g.K.Ord.cmp (g.Q.Sought.key_of a.key) (entries x))) (sym opened) ∙ e) c.remove_in_eight.ensures.due

pub remove_in_row-returns-in-Some-get_mut-2-clause-err : goal.remove_in_row-returns-in-Some-get_mut-2-clause-err
remove_in_row-returns-in-Some-get_mut-2-clause-err g t c =
    let m = c.in-Eight in
    let row = c.in-Some-get_mut-2.ensures.value ∙ ap arc_value m.row-is in
    let opened = (λ i. branch_of (m.old-is i).0 (in_row (m.size-is i) (m.bitmap-is i) (row i))) ∙ sym (ap tree m.is ∙ tree-Eight m.bitmap m.old m.size m.row) in
    let n = c.remove_in_eight.new in
    let made = tree-Eight n.bitmap n.stamp n.size (record m.row { value = n.row }) in
    on_err_weaker c.remove_in_eight.result (λ e. made ∙ e ∙ opened) c.remove_in_eight.ensures.err

pub remove_in_long_row-remove_in_sixteen-requires : goal.remove_in_long_row-remove_in_sixteen-requires
remove_in_long_row-remove_in_sixteen-requires g t c κs inside =
    let R = g.K.Ord.cmp in
    let path = g.K.PathKey.path_of in
    let a = c.args in
    let m = c.in-Sixteen in
    let row = c.in-Some.ensures.value ∙ ap arc_value m.row-is in
    let opened = (λ i. branch_of (m.old-is i).0 (in_row (m.size-is i) (m.bitmap-is i) (row i))) ∙ sym (ap tree m.is ∙ tree-Sixteen m.bitmap m.old m.size m.row) in
    (omega arith, (search rules, (search rules, (search rules, (search rules, (search rules, (search rules, (search rules, (g.met.S.Slots.rows.3, (c.requires.path, subst (IsTrie R path a.level) (sym opened) c.requires.trie))))))))))

pub remove_in_long_row-returns-in-Some-clause-ok : goal.remove_in_long_row-returns-in-Some-clause-ok
remove_in_long_row-returns-in-Some-clause-ok g t c =
    let a = c.args in
    let m = c.in-Sixteen in
    let row = c.in-Some.ensures.value ∙ ap arc_value m.row-is in
    let opened = (λ i. branch_of (m.old-is i).0 (in_row (m.size-is i) (m.bitmap-is i) (row i))) ∙ sym (ap tree m.is ∙ tree-Sixteen m.bitmap m.old m.size m.row) in
    let n = c.remove_in_sixteen.new in
    let made = tree-Sixteen n.bitmap n.stamp n.size (record m.row { value = n.row }) in
    on_ok c.remove_in_sixteen.result _ _ (λ r h. takes_equal g.S.ValueSlots.value_of g.K.Ord.cmp g.K.PathKey.path_of a.level a.stamp.0 (g.Q.Sought.key_of a.key) (g.C.Condition.holds a.condition.now) _ _ _ _ r opened made h) c.remove_in_sixteen.ensures.ok

pub remove_in_long_row-returns-in-Some-clause-due : goal.remove_in_long_row-returns-in-Some-clause-due
remove_in_long_row-returns-in-Some-clause-due g t c =
    let a = c.args in
    let m = c.in-Sixteen in
    let row = c.in-Some.ensures.value ∙ ap arc_value m.row-is in
    let opened = (λ i. branch_of (m.old-is i).0 (in_row (m.size-is i) (m.bitmap-is i) (row i))) ∙ sym (ap tree m.is ∙ tree-Sixteen m.bitmap m.old m.size m.row) in
    on_err_weaker c.remove_in_sixteen.result (λ e. ap (λ x. is_some (find g.K.Ord.cmp (g.Q.Sought.key_of a.key) (entries x))) (sym opened) ∙ e) c.remove_in_sixteen.ensures.due

pub remove_in_long_row-returns-in-Some-clause-err : goal.remove_in_long_row-returns-in-Some-clause-err
remove_in_long_row-returns-in-Some-clause-err g t c =
    let m = c.in-Sixteen in
    let row = c.in-Some.ensures.value ∙ ap arc_value m.row-is in
    let opened = (λ i. branch_of (m.old-is i).0 (in_row (m.size-is i) (m.bitmap-is i) (row i))) ∙ sym (ap tree m.is ∙ tree-Sixteen m.bitmap m.old m.size m.row) in
    let n = c.remove_in_sixteen.new in
    let made = tree-Sixteen n.bitmap n.stamp n.size (record m.row { value = n.row }) in
    on_err_weaker c.remove_in_sixteen.result (λ e. made ∙ e ∙ opened) c.remove_in_sixteen.ensures.err

pub remove_in_long_row-remove_in_all-requires : goal.remove_in_long_row-remove_in_all-requires
remove_in_long_row-remove_in_all-requires g t c κs inside =
    let R = g.K.Ord.cmp in
    let path = g.K.PathKey.path_of in
    let a = c.args in
    let m = c.in-All in
    let row = c.in-Some-get_mut.ensures.value ∙ ap arc_value m.row-is in
    let opened = (λ i. branch_of (m.old-is i).0 (in_row (m.size-is i) (m.bitmap-is i) (row i))) ∙ sym (ap tree m.is ∙ tree-All m.bitmap m.old m.size m.row) in
    (omega arith, (search rules, (search rules, (search rules, (search rules, (search rules, (search rules, (search rules, (g.met.S.Slots.rows.4, (c.requires.path, subst (IsTrie R path a.level) (sym opened) c.requires.trie))))))))))

pub remove_in_long_row-returns-in-Some-get_mut-clause-ok : goal.remove_in_long_row-returns-in-Some-get_mut-clause-ok
remove_in_long_row-returns-in-Some-get_mut-clause-ok g t c =
    let a = c.args in
    let m = c.in-All in
    let row = c.in-Some-get_mut.ensures.value ∙ ap arc_value m.row-is in
    let opened = (λ i. branch_of (m.old-is i).0 (in_row (m.size-is i) (m.bitmap-is i) (row i))) ∙ sym (ap tree m.is ∙ tree-All m.bitmap m.old m.size m.row) in
    let n = c.remove_in_all.new in
    let made = tree-All n.bitmap n.stamp n.size (record m.row { value = n.row }) in
    on_ok c.remove_in_all.result _ _ (λ r h. takes_equal g.S.ValueSlots.value_of g.K.Ord.cmp g.K.PathKey.path_of a.level a.stamp.0 (g.Q.Sought.key_of a.key) (g.C.Condition.holds a.condition.now) _ _ _ _ r opened made h) c.remove_in_all.ensures.ok

pub remove_in_long_row-returns-in-Some-get_mut-clause-due : goal.remove_in_long_row-returns-in-Some-get_mut-clause-due
remove_in_long_row-returns-in-Some-get_mut-clause-due g t c =
    let a = c.args in
    let m = c.in-All in
    let row = c.in-Some-get_mut.ensures.value ∙ ap arc_value m.row-is in
    let opened = (λ i. branch_of (m.old-is i).0 (in_row (m.size-is i) (m.bitmap-is i) (row i))) ∙ sym (ap tree m.is ∙ tree-All m.bitmap m.old m.size m.row) in
    on_err_weaker c.remove_in_all.result (λ e. ap (λ x. is_some (find g.K.Ord.cmp (g.Q.Sought.key_of a.key) (entries x))) (sym opened) ∙ e) c.remove_in_all.ensures.due

pub remove_in_long_row-returns-in-Some-get_mut-clause-err : goal.remove_in_long_row-returns-in-Some-get_mut-clause-err
remove_in_long_row-returns-in-Some-get_mut-clause-err g t c =
    let m = c.in-All in
    let row = c.in-Some-get_mut.ensures.value ∙ ap arc_value m.row-is in
    let opened = (λ i. branch_of (m.old-is i).0 (in_row (m.size-is i) (m.bitmap-is i) (row i))) ∙ sym (ap tree m.is ∙ tree-All m.bitmap m.old m.size m.row) in
    let n = c.remove_in_all.new in
    let made = tree-All n.bitmap n.stamp n.size (record m.row { value = n.row }) in
    on_err_weaker c.remove_in_all.result (λ e. made ∙ e ∙ opened) c.remove_in_all.ensures.err

pub remove_in_node-returns-in_ok-remove_from_pairs-in-Some-clause-ok : goal.remove_in_node-returns-in_ok-remove_from_pairs-in-Some-clause-ok
remove_in_node-returns-in_ok-remove_from_pairs-in-Some-clause-ok g t c =
    let R = g.K.Ord.cmp in
    let path = g.K.PathKey.path_of in
    let a = c.args in
    let m = c.in-Bucket in
    let is = c.in-Some.ensures.value ∙ ap arc_value m.pairs-is in
    let opened = (λ i. bucket (m.old-is i).0 (map pair_values (is i).items)) ∙ sym (ap tree m.is) in
    let out = c.in_ok-remove_from_pairs-in-Some in
    takes_equal {X = g.row.S-Key.Denot} g.S.ValueSlots.value_of R path a.level a.stamp.0 (g.Q.Sought.key_of a.key) (g.C.Condition.holds a.condition.now) _ _ _ _ (Done out.field-0) opened refl (out.ensures.ok a.level (subst (IsTrie R path a.level) (sym opened) c.requires.trie))

pub remove_in_at-returns-in-Done-clause-ok : goal.remove_in_at-returns-in-Done-clause-ok
remove_in_at-returns-in-Done-clause-ok g t c =
    let a = c.args in
    subst (λ r. TakesInside g.S.ValueSlots.value_of g.K.Ord.cmp g.K.PathKey.path_of a.level a.stamp.0 (g.Q.Sought.key_of a.key) (g.C.Condition.holds a.condition.now) (tree a.node.now) r (tree c.remove_in_node.new.node)) c.in-Done.is c.in_ok-removed.ensures.ok

pub remove_in_at-returns-in-GivesWay-clause-ok : goal.remove_in_at-returns-in-GivesWay-clause-ok
remove_in_at-returns-in-GivesWay-clause-ok g t c =
    let a = c.args in
    subst (λ r. TakesInside g.S.ValueSlots.value_of g.K.Ord.cmp g.K.PathKey.path_of a.level a.stamp.0 (g.Q.Sought.key_of a.key) (g.C.Condition.holds a.condition.now) (tree a.node.now) r (tree c.remove_in_node.new.node)) c.in-GivesWay.is c.in_ok-removed.ensures.ok

pub remove_in_branch-offset_bounds-row-at : goal.remove_in_branch-offset_bounds-row-at
remove_in_branch-offset_bounds-row-at g t c =
    let a = c.args in
    let d = c.digit-digit in
    let u = turn g.K.Ord.cmp g.K.PathKey.path_of a.level (in_row a.size.now a.bitmap.now a.row.now) c.requires.trie c.requires.path d.ensures.value d.ensures.small in
    omega (arith, place_fits a.bitmap.now c.place-at.result (node_size g.row.S-Key g.row.S-Value) c.requires.trie.1 (place_used a.size.now a.bitmap.now a.row.now u (sym c.has_digit.ensures ∙ c.if-not-has_digit.false) c.place-at.ensures) g.met.S.Slots.rows.4)
