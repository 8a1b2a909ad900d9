use Rattle.std.proofs.Common.{◌&&◌, is_some, rules, ◌+◌, arith, ap, sym, ◌∙◌, subst}
use Rattle.std.proofs.lemmas.Result.{on_err_weaker}
use Rattle.trie_shape.specs.Tree.{IsTrie, entries}
use Rattle.trie_shape.specs.View.{tree}
use Rattle.trie_shape.specs.Inside.{lent}
use Rattle.trie_shape.specs.Outline.{stamp_of}
use Rattle.trie_copy.specs.Removals.{Removes, is_removable}
use Rattle.trie_contraction.proofs.Removing.{absent_below, nothing_below, size_below, gone_below, left_below}
use Rattle.trie_copy.proofs.Cases.{at_err}
use Rattle.trie_shape.proofs.Views.{on_ok}
use Rattle.trie_shape.proofs.Ways.{children_long, turn, within, way}
use Rattle.trie_contraction.proofs.removal.+removal.Goals as goal

pub remove_below-returns-then-not-has_digit-clause-ok : goal.remove_below-returns-then-not-has_digit-clause-ok
remove_below-returns-then-not-has_digit-clause-ok g t c before =
    let a = c.args in
    let d = c.digit-digit in
    let u = turn g.K.Ord.cmp g.K.PathKey.path_of a.level (lent a.below) c.requires.trie c.requires.path d.ensures.value d.ensures.small in
    absent_below u g.met.K.Ord.total g.met.K.PathKey.exact before a.stamp.0 (g.C.Condition.holds a.condition.now) (sym c.has_digit.ensures ∙ c.if-not-has_digit.true)

pub remove_below-nth-child-requires : goal.remove_below-nth-child-requires
remove_below-nth-child-requires g t c =
    let a = c.args in
    let d = c.digit-digit in
    let u = turn g.K.Ord.cmp g.K.PathKey.path_of a.level (lent a.below) c.requires.trie c.requires.path d.ensures.value d.ensures.small in
    omega (arith, within u (sym c.has_digit.ensures ∙ c.if-not-has_digit.false) c.place-at.ensures)

pub remove_below-overflow_add-level : goal.remove_below-overflow_add-level
remove_below-overflow_add-level g t c =
    omega (arith, c.requires.trie.0)

pub remove_below-remove_at-requires : goal.remove_below-remove_at-requires
remove_below-remove_at-requires g t c κs inside =
    let a = c.args in
    let d = c.digit-digit in
    let u = turn g.K.Ord.cmp g.K.PathKey.path_of a.level (lent a.below) c.requires.trie c.requires.path d.ensures.value d.ensures.small in
    let w = way u g.met.K.PathKey.exact (sym c.has_digit.ensures ∙ c.if-not-has_digit.false) c.place-at.ensures c.nth-child.ensures in
    (omega (arith, w.above), (search rules, (search rules, (search rules, (search rules, (search rules, (search rules, (search rules, (c.requires.path, w.trie)))))))))

pub remove_below-returns-in-Nothing-clause-ok : goal.remove_below-returns-in-Nothing-clause-ok
remove_below-returns-in-Nothing-clause-ok g t c before =
    let a = c.args in
    let d = c.digit-digit in
    let u = turn g.K.Ord.cmp g.K.PathKey.path_of a.level (lent a.below) c.requires.trie c.requires.path d.ensures.value d.ensures.small in
    let w = way u g.met.K.PathKey.exact (sym c.has_digit.ensures ∙ c.if-not-has_digit.false) c.place-at.ensures c.nth-child.ensures in
    let holds = g.C.Condition.holds a.condition.now in
    let h = subst (Removes g.K.Ord.cmp g.K.PathKey.path_of (a.level + 1) a.stamp.0 (g.Q.Sought.key_of a.key) holds (tree c.nth-child.result.now)) c.in-Nothing.is c.in_ok-found.ensures.ok in
    nothing_below w g.met.K.Ord.total g.met.K.PathKey.exact before a.stamp.0 holds _ h

pub remove_below-without_rest-requires : goal.remove_below-without_rest-requires
remove_below-without_rest-requires g t c =
    let a = c.args in
    let d = c.digit-digit in
    let u = turn g.K.Ord.cmp g.K.PathKey.path_of a.level (lent a.below) c.requires.trie c.requires.path d.ensures.value d.ensures.small in
    let w = way u g.met.K.PathKey.exact (sym c.has_digit.ensures ∙ c.if-not-has_digit.false) c.place-at.ensures c.nth-child.ensures in
    let holds = g.C.Condition.holds a.condition.now in
    let h = subst (Removes g.K.Ord.cmp g.K.PathKey.path_of (a.level + 1) a.stamp.0 (g.Q.Sought.key_of a.key) holds (tree c.nth-child.result.now)) c.in-Gone.is c.in_ok-found.ensures.ok in
    record {
      digit = d.ensures.small;
      has = w.has;
      at = within u w.has w.place;
      size = size_below w g.met.K.Ord.total g.met.K.PathKey.exact 0 a.stamp.0 holds _ h.0;
      count = children_long g.K.Ord.cmp g.K.PathKey.path_of a.level 0 (lent a.below) c.requires.trie;
    }

pub remove_below-with_rest-requires : goal.remove_below-with_rest-requires
remove_below-with_rest-requires g t c =
    let a = c.args in
    let d = c.digit-digit in
    let u = turn g.K.Ord.cmp g.K.PathKey.path_of a.level (lent a.below) c.requires.trie c.requires.path d.ensures.value d.ensures.small in
    let w = way u g.met.K.PathKey.exact (sym c.has_digit.ensures ∙ c.if-not-has_digit.false) c.place-at.ensures c.nth-child.ensures in
    let holds = g.C.Condition.holds a.condition.now in
    let h = subst (Removes g.K.Ord.cmp g.K.PathKey.path_of (a.level + 1) a.stamp.0 (g.Q.Sought.key_of a.key) holds (tree c.nth-child.result.now)) c.in-Left.is c.in_ok-found.ensures.ok in
    record {
      at = within u w.has w.place;
      size = size_below w g.met.K.Ord.total g.met.K.PathKey.exact 0 a.stamp.0 holds _ h.taken;
      count = children_long g.K.Ord.cmp g.K.PathKey.path_of a.level 0 (lent a.below) c.requires.trie;
    }

pub remove_below-returns-in_ok-rest-in-Gone-clause-ok : goal.remove_below-returns-in_ok-rest-in-Gone-clause-ok
remove_below-returns-in_ok-rest-in-Gone-clause-ok g t c before =
    let a = c.args in
    let d = c.digit-digit in
    let u = turn g.K.Ord.cmp g.K.PathKey.path_of a.level (lent a.below) c.requires.trie c.requires.path d.ensures.value d.ensures.small in
    let w = way u g.met.K.PathKey.exact (sym c.has_digit.ensures ∙ c.if-not-has_digit.false) c.place-at.ensures c.nth-child.ensures in
    let holds = g.C.Condition.holds a.condition.now in
    let h = subst (Removes g.K.Ord.cmp g.K.PathKey.path_of (a.level + 1) a.stamp.0 (g.Q.Sought.key_of a.key) holds (tree c.nth-child.result.now)) c.in-Gone.is c.in_ok-found.ensures.ok in
    gone_below w g.met.K.Ord.total g.met.K.PathKey.exact before a.stamp.0 holds _ h.0 h.1 (tree c.in_ok-rest-in-Gone.rest) c.in_ok-rest-in-Gone.ensures

pub remove_below-returns-in_ok-rest-in-Left-clause-ok : goal.remove_below-returns-in_ok-rest-in-Left-clause-ok
remove_below-returns-in_ok-rest-in-Left-clause-ok g t c before =
    let a = c.args in
    let d = c.digit-digit in
    let u = turn g.K.Ord.cmp g.K.PathKey.path_of a.level (lent a.below) c.requires.trie c.requires.path d.ensures.value d.ensures.small in
    let w = way u g.met.K.PathKey.exact (sym c.has_digit.ensures ∙ c.if-not-has_digit.false) c.place-at.ensures c.nth-child.ensures in
    let holds = g.C.Condition.holds a.condition.now in
    let h = subst (Removes g.K.Ord.cmp g.K.PathKey.path_of (a.level + 1) a.stamp.0 (g.Q.Sought.key_of a.key) holds (tree c.nth-child.result.now)) c.in-Left.is c.in_ok-found.ensures.ok in
    left_below w g.met.K.Ord.total g.met.K.PathKey.exact before a.stamp.0 holds _ (tree c.in-Left.child) h (tree c.in_ok-rest-in-Left.rest) c.in_ok-rest-in-Left.ensures

pub remove_below-returns-in_err-found-clause-due : goal.remove_below-returns-in_err-found-clause-due
remove_below-returns-in_err-found-clause-due g t c =
    let a = c.args in
    let d = c.digit-digit in
    let u = turn g.K.Ord.cmp g.K.PathKey.path_of a.level (lent a.below) c.requires.trie c.requires.path d.ensures.value d.ensures.small in
    let w = way u g.met.K.PathKey.exact (sym c.has_digit.ensures ∙ c.if-not-has_digit.false) c.place-at.ensures c.nth-child.ensures in
    let holds = g.C.Condition.holds a.condition.now in
    at_err c.from_residual.result (ap (λ o. is_some o && holds o) w.found ∙ c.in_err-found.ensures.due)

pub remove_below-returns-in_err-rest-in-Gone-clause-due : goal.remove_below-returns-in_err-rest-in-Gone-clause-due
remove_below-returns-in_err-rest-in-Gone-clause-due g t c =
    let a = c.args in
    let d = c.digit-digit in
    let u = turn g.K.Ord.cmp g.K.PathKey.path_of a.level (lent a.below) c.requires.trie c.requires.path d.ensures.value d.ensures.small in
    let w = way u g.met.K.PathKey.exact (sym c.has_digit.ensures ∙ c.if-not-has_digit.false) c.place-at.ensures c.nth-child.ensures in
    let holds = g.C.Condition.holds a.condition.now in
    let h = subst (Removes g.K.Ord.cmp g.K.PathKey.path_of (a.level + 1) a.stamp.0 (g.Q.Sought.key_of a.key) holds (tree c.nth-child.result.now)) c.in-Gone.is c.in_ok-found.ensures.ok in
    at_err c.from_residual-in_err-rest-in-Gone.result (ap (λ o. is_some o && holds o) (w.found ∙ h.0.0) ∙ h.0.1)

pub remove_below-returns-in_err-rest-in-Left-clause-due : goal.remove_below-returns-in_err-rest-in-Left-clause-due
remove_below-returns-in_err-rest-in-Left-clause-due g t c =
    let a = c.args in
    let d = c.digit-digit in
    let u = turn g.K.Ord.cmp g.K.PathKey.path_of a.level (lent a.below) c.requires.trie c.requires.path d.ensures.value d.ensures.small in
    let w = way u g.met.K.PathKey.exact (sym c.has_digit.ensures ∙ c.if-not-has_digit.false) c.place-at.ensures c.nth-child.ensures in
    let holds = g.C.Condition.holds a.condition.now in
    let h = subst (Removes g.K.Ord.cmp g.K.PathKey.path_of (a.level + 1) a.stamp.0 (g.Q.Sought.key_of a.key) holds (tree c.nth-child.result.now)) c.in-Left.is c.in_ok-found.ensures.ok in
    at_err c.from_residual-in_err-rest-in-Left.result (ap (λ o. is_some o && holds o) (w.found ∙ h.taken.0) ∙ h.taken.1)

pub remove_at-remove_below-requires : goal.remove_at-remove_below-requires
remove_at-remove_below-requires g t c κs inside =
    let a = c.args in
    (omega arith, (search rules, (search rules, (search rules, (search rules, (search rules, (search rules, (search rules, (c.requires.path, subst (IsTrie g.K.Ord.cmp g.K.PathKey.path_of a.level) c.in-Branch.ensures c.requires.trie)))))))))

pub remove_at-returns-in-Branch-clause-ok : goal.remove_at-returns-in-Branch-clause-ok
remove_at-returns-in-Branch-clause-ok g t c =
    let a = c.args in
    on_ok c.remove_below.result _ _ (λ r h. subst (λ x. Removes g.K.Ord.cmp g.K.PathKey.path_of a.level a.stamp.0 (g.Q.Sought.key_of a.key) (g.C.Condition.holds a.condition.now) x r) (sym c.in-Branch.ensures) (h c.in-Branch.below.stamp.0)) c.remove_below.ensures.ok

pub remove_at-returns-in-Branch-clause-due : goal.remove_at-returns-in-Branch-clause-due
remove_at-returns-in-Branch-clause-due g t c =
    let a = c.args in
    on_err_weaker c.remove_below.result (λ e. ap (λ x. is_removable g.K.Ord.cmp (g.Q.Sought.key_of a.key) (g.C.Condition.holds a.condition.now) (entries x)) c.in-Branch.ensures ∙ e) c.remove_below.ensures.due

pub remove_at-returns-in-Pairs-clause-ok : goal.remove_at-returns-in-Pairs-clause-ok
remove_at-returns-in-Pairs-clause-ok g t c =
    let R = g.K.Ord.cmp in
    let path = g.K.PathKey.path_of in
    let a = c.args in
    let is = c.in-Pairs.ensures in
    on_ok c.take_pair.result _ _ (λ r h. subst (λ x. Removes R path a.level a.stamp.0 (g.Q.Sought.key_of a.key) (g.C.Condition.holds a.condition.now) x r) (sym is) (h a.level (stamp_of (tree a.node.now)) (subst (IsTrie R path a.level) is c.requires.trie))) c.take_pair.ensures.ok
