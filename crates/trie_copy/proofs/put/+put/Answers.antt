use Rattle.std.proofs.Common.{is_some, rules, ◌≡◌, option_map, ◌+◌, ◌<◌, ◌^◌, Some, sym, ap, ◌∙◌, subst, arith, length}
use Rattle.std.specs.FinMap.{find}
use Rattle.std.proofs.lemmas.Result.{on_err_weaker}
use Rattle.trie_shape.specs.Tree.{entries, IsTrie}
use Rattle.trie_shape.specs.View.{tree, branch_of}
use Rattle.trie_shape.specs.Inside.{lent}
use Rattle.trie_copy.specs.Writes.{Writes, WritesWhere, KeysAgree}
use Rattle.trie_copy.proofs.Answered.{nothing_raised, written_below, raised, is_some_mapped, some_mapped}
use Rattle.trie_shape.proofs.Divides.{trie_fits}
use Rattle.trie_copy.proofs.Cases.{at_err}
use Rattle.trie_shape.proofs.Views.{on_ok}
use Rattle.trie_shape.proofs.Ways.{children_long, turn, gap_within, within, absent, way}
use Rattle.trie_copy.proofs.PutsBelow.{leaf_added, agree_below, child_put}
use Rattle.trie_copy.proofs.put.+put.Goals as goal

pub put_below-put_beside-requires-clause-place : goal.put_below-put_beside-requires-clause-place
put_below-put_beside-requires-clause-place g t c =
    let a = c.args in
    let d = c.digit-digit in
    let b = lent a.below in
    let u = turn g.K.Ord.cmp g.K.PathKey.path_of a.level b c.requires.trie c.requires.path d.ensures.value d.ensures.small in
    (gap_within u (sym c.has_digit.ensures ∙ c.if-not-has_digit.true))

pub put_below-put_beside-requires-clause-count : goal.put_below-put_beside-requires-clause-count
put_below-put_beside-requires-clause-count g t c =
    let a = c.args in
    children_long g.K.Ord.cmp g.K.PathKey.path_of a.level 0 (lent a.below) c.requires.trie

pub put_below-put_beside-requires-clause-lacks : goal.put_below-put_beside-requires-clause-lacks
put_below-put_beside-requires-clause-lacks g t c = sym c.has_digit.ensures ∙ c.if-not-has_digit.true

pub put_below-returns-then-not-has_digit-clause-ok : goal.put_below-returns-then-not-has_digit-clause-ok
put_below-returns-then-not-has_digit-clause-ok g t c before =
    let R = g.K.Ord.cmp in
    let path = g.K.PathKey.path_of in
    let exact = g.met.K.PathKey.exact in
    let a = c.args in
    let d = c.digit-digit in
    let b = lent a.below in
    let k = a.entry.pair.0 in
    let v = a.entry.pair.1 in
    let s = a.entry.stamp.0 in
    let holds = g.C.Condition.holds a.condition.now in
    let made = c.in_ok-put_beside in
    let u = turn R path a.level b c.requires.trie c.requires.path d.ensures.value d.ensures.small in
    let lacks = sym c.has_digit.ensures ∙ c.if-not-has_digit.true in
    let none = absent u exact lacks in
    record {
      previous_is = sym none;
      written = sym (is_some_mapped tree made.field-0) ∙ made.ensures.written ∙ ap holds (sym none);
      writes = some_mapped tree made.field-0 _ (Writes R path a.level s k (Some v) (branch_of before b)) (λ n is.
          leaf_added u g.met.K.Ord.total exact lacks before s v (tree n)
          is) made.ensures.leaf;
    }

pub put_below-nth-old-requires : goal.put_below-nth-old-requires
put_below-nth-old-requires g t c =
    let a = c.args in
    let d = c.digit-digit in
    let u = turn g.K.Ord.cmp g.K.PathKey.path_of a.level (lent a.below) c.requires.trie c.requires.path d.ensures.value d.ensures.small in
    omega (arith, within u (sym c.has_digit.ensures ∙ c.if-not-has_digit.false) c.place-at.ensures)

pub put_below-put_at-requires : goal.put_below-put_at-requires
put_below-put_at-requires g t c κs inside =
    let a = c.args in
    let d = c.digit-digit in
    let u = turn g.K.Ord.cmp g.K.PathKey.path_of a.level (lent a.below) c.requires.trie c.requires.path d.ensures.value d.ensures.small in
    let w = way u g.met.K.PathKey.exact (sym c.has_digit.ensures ∙ c.if-not-has_digit.false) c.place-at.ensures c.nth-old.ensures in
    (omega (arith, w.above), (search rules, (search rules, (search rules, (search rules, (search rules, (search rules, (w.trie, (c.requires.path, (agree_below w c.requires.path c.requires.agree, omega (arith, w.fewer, w.counted, c.requires.room)))))))))))

pub put_below-overflow_add-level : goal.put_below-overflow_add-level
put_below-overflow_add-level g t c = omega (arith, c.requires.trie.0)

pub put_below-returns-in_default-clause-ok : goal.put_below-returns-in_default-clause-ok
put_below-returns-in_default-clause-ok g t c before =
    let R = g.K.Ord.cmp in
    let path = g.K.PathKey.path_of in
    let a = c.args in
    let d = c.digit-digit in
    let found = c.in_ok-root in
    let old = c.nth-old.result.now in
    let u = turn R path a.level (lent a.below) c.requires.trie c.requires.path d.ensures.value d.ensures.small in
    let w = way u g.met.K.PathKey.exact (sym c.has_digit.ensures ∙ c.if-not-has_digit.false) c.place-at.ensures c.nth-old.ensures in
    nothing_raised R path a.level a.entry.stamp.0 a.entry.pair.0 (Some a.entry.pair.1) (g.C.Condition.holds a.condition.now) (branch_of before (lent a.below)) (a.level + 1) (tree old) w.found
    (option_map (λ p. p.now.1) found.field-0.previous) (option_map tree found.field-0.root) found.ensures.ok (ap (option_map tree) c.in_default.is)

pub put_below-overflow_add-size : goal.put_below-overflow_add-size
put_below-overflow_add-size g t c =
    let R = g.K.Ord.cmp in
    let path = g.K.PathKey.path_of in
    let a = c.args in
    let d = c.digit-digit in
    let found = c.in_ok-root in
    let old = c.nth-old.result.now in
    let new = c.in-Some.child in
    let u = turn R path a.level (lent a.below) c.requires.trie c.requires.path d.ensures.value d.ensures.small in
    let w = way u g.met.K.PathKey.exact (sym c.has_digit.ensures ∙ c.if-not-has_digit.false) c.place-at.ensures c.nth-old.ensures in
    let given = written_below R path a.level a.entry.stamp.0 a.entry.pair.0 (Some a.entry.pair.1) (g.C.Condition.holds a.condition.now) (branch_of 0 (lent a.below)) (a.level + 1) (tree old) w.found
    (option_map (λ p. p.now.1) found.field-0.previous) (option_map tree found.field-0.root) found.ensures.ok (tree new) (ap (option_map tree) c.in-Some.is) in
    let more : c.size.result ≡ length (entries (tree new)) = c.size.ensures (trie_fits R path (a.level + 1) (tree new) given.trie) in
    omega (arith, w.counted, more, given.most, w.fewer, c.requires.room)

pub put_below-overflow_sub-size : goal.put_below-overflow_sub-size
put_below-overflow_sub-size g t c =
    let R = g.K.Ord.cmp in
    let path = g.K.PathKey.path_of in
    let a = c.args in
    let d = c.digit-digit in
    let old = c.nth-old.result.now in
    let u = turn R path a.level (lent a.below) c.requires.trie c.requires.path d.ensures.value d.ensures.small in
    let w = way u g.met.K.PathKey.exact (sym c.has_digit.ensures ∙ c.if-not-has_digit.false) c.place-at.ensures c.nth-old.ensures in
    let less : c.size-2.result ≡ length (entries (tree old)) = c.size-2.ensures (trie_fits R path (a.level + 1) (tree old) w.trie) in
    omega (arith, less, w.fewer)

pub put_below-with_child-requires : goal.put_below-with_child-requires
put_below-with_child-requires g t c =
    let a = c.args in
    let d = c.digit-digit in
    let u = turn g.K.Ord.cmp g.K.PathKey.path_of a.level (lent a.below) c.requires.trie c.requires.path d.ensures.value d.ensures.small in
    record {
      at = within u (sym c.has_digit.ensures ∙ c.if-not-has_digit.false) c.place-at.ensures;
      count = children_long g.K.Ord.cmp g.K.PathKey.path_of a.level 0 (lent a.below) c.requires.trie;
    }

pub put_below-returns-clause-ok : goal.put_below-returns-clause-ok
put_below-returns-clause-ok g t c before =
    let R = g.K.Ord.cmp in
    let path = g.K.PathKey.path_of in
    let a = c.args in
    let d = c.digit-digit in
    let found = c.in_ok-root in
    let old = c.nth-old.result.now in
    let b = lent a.below in
    let k = a.entry.pair.0 in
    let v = a.entry.pair.1 in
    let s = a.entry.stamp.0 in
    let holds = g.C.Condition.holds a.condition.now in
    let new = c.in-Some.child in
    let node = c.in_ok-root-2.root in
    let previous = option_map (λ p. p.now.1) found.field-0.previous in
    let made = option_map tree found.field-0.root in
    let some = ap (option_map tree) c.in-Some.is in
    let u = turn R path a.level (lent a.below) c.requires.trie c.requires.path d.ensures.value d.ensures.small in
    let w = way u g.met.K.PathKey.exact (sym c.has_digit.ensures ∙ c.if-not-has_digit.false) c.place-at.ensures c.nth-old.ensures in
    let given = written_below R path a.level s k (Some v) holds (branch_of before b) (a.level + 1) (tree old) w.found previous made found.ensures.ok (tree new) some in
    let more : c.size.result ≡ length (entries (tree new)) = c.size.ensures (trie_fits R path (a.level + 1) (tree new) given.trie) in
    let less : c.size-2.result ≡ length (entries (tree old)) = c.size-2.ensures (trie_fits R path (a.level + 1) (tree old) w.trie) in
    let writes = child_put w g.met.K.Ord.total g.met.K.PathKey.exact before s v (tree new) given more less (tree node)
    c.in_ok-root-2.ensures in
    raised R path a.level s k (Some v) holds (branch_of before b) (a.level + 1) (tree old) w.found previous made found.ensures.ok (tree new) some (tree node) writes

pub put_below-returns-in_err-root-clause-due : goal.put_below-returns-in_err-root-clause-due
put_below-returns-in_err-root-clause-due g t c =
    let R = g.K.Ord.cmp in
    let path = g.K.PathKey.path_of in
    let a = c.args in
    let d = c.digit-digit in
    let u = turn R path a.level (lent a.below) c.requires.trie c.requires.path d.ensures.value d.ensures.small in
    let w = way u g.met.K.PathKey.exact (sym c.has_digit.ensures ∙ c.if-not-has_digit.false) c.place-at.ensures c.nth-old.ensures in
    at_err c.from_residual-in_err-root.result (ap (g.C.Condition.holds a.condition.now) w.found ∙ c.in_err-root.ensures.due)

pub put_below-returns-in_err-root-2-clause-due : goal.put_below-returns-in_err-root-2-clause-due
put_below-returns-in_err-root-2-clause-due g t c =
    let R = g.K.Ord.cmp in
    let path = g.K.PathKey.path_of in
    let a = c.args in
    let d = c.digit-digit in
    let u = turn R path a.level (lent a.below) c.requires.trie c.requires.path d.ensures.value d.ensures.small in
    let w = way u g.met.K.PathKey.exact (sym c.has_digit.ensures ∙ c.if-not-has_digit.false) c.place-at.ensures c.nth-old.ensures in
    at_err c.from_residual-in_err-root-2.result (ap (g.C.Condition.holds a.condition.now) w.found ∙ sym c.in_ok-root.ensures.ok.written ∙ ap (λ r. is_some (option_map tree r)) c.in-Some.is)

pub put_below-returns-in_err-put_beside-clause-due : goal.put_below-returns-in_err-put_beside-clause-due
put_below-returns-in_err-put_beside-clause-due g t c =
    let a = c.args in
    let d = c.digit-digit in
    let u = turn g.K.Ord.cmp g.K.PathKey.path_of a.level (lent a.below) c.requires.trie c.requires.path d.ensures.value d.ensures.small in
    let none = absent u g.met.K.PathKey.exact (sym c.has_digit.ensures ∙ c.if-not-has_digit.true) in
    at_err c.from_residual.result (ap (g.C.Condition.holds a.condition.now) none ∙ c.in_err-put_beside.ensures.due)

pub put_at-put_below-requires : goal.put_at-put_below-requires
put_at-put_below-requires g t c κs inside =
    let R = g.K.Ord.cmp in
    let path = g.K.PathKey.path_of in
    let a = c.args in
    let is = c.in-Branch.ensures in
    (omega arith, (search rules, (search rules, (search rules, (search rules, (search rules, (search rules, (subst (IsTrie R path a.level) is c.requires.trie, (c.requires.path, (subst (λ x. KeysAgree R path a.level a.entry.path.0 (entries x)) is c.requires.agree, subst (λ x. length (entries x) < 2 ^ 63) is c.requires.room))))))))))

pub put_at-returns-in-Branch-clause-ok : goal.put_at-returns-in-Branch-clause-ok
put_at-returns-in-Branch-clause-ok g t c =
    let R = g.K.Ord.cmp in
    let path = g.K.PathKey.path_of in
    let a = c.args in
    let b = c.in-Branch.below in
    let is = c.in-Branch.ensures in
    on_ok c.put_below.result _ _ (λ w h. subst (λ x. WritesWhere R path a.level a.entry.stamp.0 a.entry.pair.0 (Some a.entry.pair.1) (g.C.Condition.holds a.condition.now) x (option_map (λ p. p.now.1) w.previous) (option_map tree w.root)) (sym is) (h b.stamp.0)) c.put_below.ensures.ok

pub put_at-returns-in-Branch-clause-due : goal.put_at-returns-in-Branch-clause-due
put_at-returns-in-Branch-clause-due g t c =
    let a = c.args in
    let is = c.in-Branch.ensures in
    on_err_weaker c.put_below.result (λ e. ap (λ x. g.C.Condition.holds a.condition.now (find g.K.Ord.cmp a.entry.pair.0 (entries x))) is ∙ e) c.put_below.ensures.due
