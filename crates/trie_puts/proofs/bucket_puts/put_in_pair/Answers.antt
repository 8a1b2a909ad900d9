use Rattle.std.proofs.Common.{◌≡◌, Some, sym, ap, ◌∙◌, subst, true≢false, set}
use Rattle.trie_shape.specs.Tree.{bucket}
use Rattle.trie_shape.specs.View.{pair_values}
use Rattle.trie_copy.specs.Writes.{Writes}
use Rattle.trie_puts.proofs.Placing.{writes_there}
use Rattle.trie_puts.proofs.bucket_puts.put_in_pair.Goals as goal

pub returns-clause-ok : goal.returns-clause-ok
returns-clause-ok g c level es i at here trie =
    let R = g.K.Ord.cmp in
    let path = g.K.PathKey.path_of in
    let a = c.args in
    let k = a.entry.pair.0 in
    let s = a.entry.stamp.0 in
    let found = at.value (pair_values a.pair.now) ∙ ap (λ p. Some p.1) here in
    let same : k ≡ a.pair.now.0 = at.key a.pair.now ∙ ap (λ p. p.0) here in
    record {
      previous_is = ap Some c.exchange-previous.ensures.before ∙ sym found;
      written_is = sym c.if-not-holds_of.false ∙ c.holds_of.ensures ∙ ap (λ v. g.C.Condition.holds a.condition.now (Some v)) c.value.ensures ∙ ap (g.C.Condition.holds a.condition.now) (sym found);
      writes = λ e. subst (λ x. Writes R path level s k (Some a.entry.pair.1) (bucket a.stamp.now.0 es) (bucket s (set es i x))) ((λ j. (same j, (sym c.into_value.ensures) j)) ∙ sym c.exchange-previous.ensures.after)
          (writes_there R g.met.K.Ord.total path g.met.K.PathKey.exact level s a.stamp.now.0 k a.entry.pair.1 es i trie at);
      kept = λ e. absurd (true≢false e);
    }
