use Rattle.std.proofs.Common.{◌≡◌, Some, sym, ap, ◌∙◌, subst, set}
use Rattle.std.proofs.lemmas.List.{length-set}
use Rattle.trie_shape.specs.Tree.{bucket}
use Rattle.trie_shape.specs.View.{pair_values}
use Rattle.trie_copy.specs.Writes.{Writes}
use Rattle.trie_puts.proofs.Placing.{writes_there}
use Rattle.trie_puts.proofs.exchange.exchange_in_pair.Goals as goal

pub returns : goal.returns
returns g c k level es i at here trie =
    let R = g.K.Ord.cmp in
    let path = g.K.PathKey.path_of in
    let a = c.args in
    let s = a.new_stamp.0 in
    let v = g.S.ValueSlots.value_of a.value in
    let holds = g.C.Condition.holds a.condition.now in
    let same : k ≡ a.pair.now.0 = at.key a.pair.now ∙ ap (λ p. p.0) here in (
      at.value (pair_values a.pair.now) ∙ ap (λ p. Some p.1) here ∙ ap Some (sym c.exchange.ensures.before),
      ap (λ x. holds (Some x)) (c.exchange.ensures.before ∙ sym c.value.ensures) ∙ sym c.holds_of.ensures ∙ c.if-not-holds_of.false,
      subst (λ x. Writes R path level s k (Some v) (bucket a.stamp.now.0 es) (bucket s (set es i x))) ((λ j. (same j, v)) ∙ sym c.exchange.ensures.after)
          (writes_there R g.met.K.Ord.total path g.met.K.PathKey.exact level s a.stamp.now.0 k v es i trie at),
      length-set es i _,
    )
