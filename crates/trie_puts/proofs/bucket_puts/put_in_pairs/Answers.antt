use Rattle.std.proofs.Common.{◌<◌, map, length, option_map, is_some, subst, sym, ap, ◌∙◌, arith}
use Rattle.std.specs.FinMap.{find}
use Rattle.std.proofs.lemmas.Bool.{or_right}
use Rattle.std.proofs.lemmas.List.{length-map, get_or-map, map-set}
use Rattle.trie_shape.specs.Tree.{bucket}
use Rattle.trie_puts.specs.PutInPlace.{PutsIn}
use Rattle.trie_copy.specs.Removals.{IsAt}
use Rattle.trie_shape.specs.View.{pair_values}
use Rattle.trie_copy.proofs.Cases.{at_err}
use Rattle.trie_shape.proofs.Views.{on_ok}
use Rattle.trie_puts.proofs.bucket_puts.put_in_pairs.Goals as goal

pub returns-in-Ok-clause-ok : goal.returns-in-Ok-clause-ok
returns-in-Ok-clause-ok g c =
    let R = g.K.Ord.cmp in
    let path = g.K.PathKey.path_of in
    let a = c.args in
    let k = a.entry.pair.0 in
    let v = a.entry.pair.1 in
    let items = a.pairs.now.items in
    let es = map pair_values items in
    let i = c.in-Ok.at in
    let pair = c.index_mut.result.now in
    let new = c.put_in_pair.new in
    let at : IsAt R k i es = subst (λ x. IsAt R x i es) c.key.ensures (subst (λ xs. IsAt R c.key.result.now i (map pair_values xs)) c.as_slice.ensures.value c.in-Ok.ensures) in
    let within : i < length items = omega (arith, at.within, length-map items pair_values) in
    let here = get_or-map pair_values items i pair (pair_values pair) within ∙ ap pair_values (sym c.index_mut.ensures.value) in
    on_ok c.put_in_pair.result _ _ (λ d h level trie.
    subst (λ xs. PutsIn R path level a.entry.stamp.0 k v (g.C.Condition.holds a.condition.now) (bucket a.stamp.now.0 es) (option_map g.S.ValueSlots.value_of d.previous) d.written (bucket new.stamp.0 xs)) (sym (map-set pair_values items i new.pair)) (h level es i at here trie)) c.put_in_pair.ensures.ok

pub returns-in-Ok-clause-due : goal.returns-in-Ok-clause-due
returns-in-Ok-clause-due g c =
    let R = g.K.Ord.cmp in
    let a = c.args in
    let k = a.entry.pair.0 in
    let es = map pair_values a.pairs.now.items in
    let i = c.in-Ok.at in
    let at : IsAt R k i es = subst (λ x. IsAt R x i es) c.key.ensures (subst (λ xs. IsAt R c.key.result.now i (map pair_values xs)) c.as_slice.ensures.value c.in-Ok.ensures) in
    at_err c.put_in_pair.result (or_right (g.C.Condition.holds a.condition.now (find R k es)) (is_some (find R k es)) (ap is_some (at.value (pair_values c.index_mut.result.now))))
