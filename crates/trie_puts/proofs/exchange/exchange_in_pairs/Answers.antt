use Rattle.std.proofs.Common.{◌<◌, map, length, subst, sym, ap, ◌∙◌, arith}
use Rattle.std.proofs.lemmas.List.{length-map, get_or-map, map-set}
use Rattle.trie_shape.specs.Tree.{bucket}
use Rattle.trie_shape.specs.View.{pair_values}
use Rattle.trie_copy.specs.Removals.{IsAt}
use Rattle.trie_puts.specs.Exchanging.{Exchanges}
use Rattle.trie_puts.proofs.exchange.exchange_in_pairs.Goals as goal

pub returns-in-Some : goal.returns-in-Some
returns-in-Some g c level trie =
    let R = g.K.Ord.cmp in
    let path = g.K.PathKey.path_of in
    let a = c.args in
    let k = g.Q.Sought.key_of a.key in
    let items = a.pairs.now.items in
    let es = map pair_values items in
    let i = c.in-Some.at in
    let pair = c.index_mut.result.now in
    let new = c.exchange_in_pair.new in
    let at : IsAt R k i es = subst (λ xs. IsAt R k i (map pair_values xs)) c.as_slice.ensures.value c.in-Some.ensures.there in
    let within : i < length items = omega (arith, at.within, length-map items pair_values) in
    let here = get_or-map pair_values items i pair (pair_values pair) within ∙ ap pair_values (sym c.index_mut.ensures.value) in
    subst (λ xs. Exchanges g.S.ValueSlots.value_of R path level a.new_stamp.0 k a.value (g.C.Condition.holds a.condition.now) (bucket a.stamp.now.0 es) c.exchange_in_pair.result (bucket new.stamp.0 xs)) (sym (map-set pair_values items i new.pair))
    (c.exchange_in_pair.ensures k level es i at here trie)
