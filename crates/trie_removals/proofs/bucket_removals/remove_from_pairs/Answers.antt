use Rattle.std.proofs.Common.{◌<◌, ◌+◌, ◌&&◌, map, length, Some, None, is_some, refl, subst, sym, ap, ◌∙◌, arith}
use Rattle.std.proofs.lemmas.List.{length-map, get_or-map}
use Rattle.std.proofs.lemmas.List.Edits.{length-remove}
use Rattle.trie_shape.specs.Tree.{bucket, entries}
use Rattle.trie_copy.specs.Removals.{IsAt}
use Rattle.trie_shape.specs.View.{pair_values}
use Rattle.trie_copy.specs.Writes.{Writes}
use Rattle.trie_copy.proofs.Cases.{at_err}
use Rattle.trie_shape.proofs.Shortened.{map_remove}
use Rattle.trie_copy.proofs.Taken.{removes_pair}
use Rattle.trie_removals.proofs.bucket_removals.remove_from_pairs.Goals as goal

pub returns-in_err-value-clause-due : goal.returns-in_err-value-clause-due
returns-in_err-value-clause-due g c =
    let R = g.K.Ord.cmp in
    let k = g.Q.Sought.key_of c.args.key in
    let at = subst (λ xs. IsAt R k c.in-Some.at (map pair_values xs)) c.as_slice.ensures.value c.in-Some.ensures.there in
    at_err c.from_residual.result (ap is_some (at.value (pair_values c.index.result.now)))

pub returns-then-not-holds_of-clause-ok : goal.returns-then-not-holds_of-clause-ok
returns-then-not-holds_of-clause-ok g c level trie =
    let R = g.K.Ord.cmp in
    let k = g.Q.Sought.key_of c.args.key in
    let items = c.args.pairs.now.items in
    let i = c.in-Some.at in
    let at = subst (λ xs. IsAt R k i (map pair_values xs)) c.as_slice.ensures.value c.in-Some.ensures.there in
    let within : i < length items = omega (arith, at.within, length-map items pair_values) in
    let pair = c.index.result.now in
    let again = c.index-then-not-holds_of.result.now in
    let found = at.value (pair_values pair) ∙ ap (λ p. Some p.1) (get_or-map pair_values items i pair (pair_values pair) within ∙ ap pair_values (sym c.index.ensures)) in
    let told = at.value (pair_values again) ∙ ap (λ p. Some p.1) (get_or-map pair_values items i again (pair_values again) within ∙ ap pair_values (sym c.index-then-not-holds_of.ensures)) in
    (ap Some (c.in_ok-value.ensures ∙ c.value_slot.ensures) ∙ sym told, ap (λ o. is_some o && g.C.Condition.holds c.args.condition.now o) found ∙ ap (λ v. g.C.Condition.holds c.args.condition.now (Some v)) (sym c.value.ensures) ∙ sym c.holds_of.ensures ∙ c.if-not-holds_of.true, refl)

pub returns-clause-ok : goal.returns-clause-ok
returns-clause-ok g c level trie =
    let R = g.K.Ord.cmp in
    let path = g.K.PathKey.path_of in
    let k = g.Q.Sought.key_of c.args.key in
    let s = c.args.new_stamp.0 in
    let before = c.args.stamp.now.0 in
    let holds = g.C.Condition.holds c.args.condition.now in
    let items = c.args.pairs.now.items in
    let es = map pair_values items in
    let i = c.in-Some.at in
    let at = subst (λ xs. IsAt R k i (map pair_values xs)) c.as_slice.ensures.value c.in-Some.ensures.there in
    let within : i < length items = omega (arith, at.within, length-map items pair_values) in
    let pair = c.index.result.now in
    let gone = c.remove-pair.result in
    let found = at.value (pair_values pair) ∙ ap (λ p. Some p.1) (get_or-map pair_values items i pair (pair_values pair) within ∙ ap pair_values (sym c.index.ensures)) in
    let given = at.value (pair_values gone) ∙ ap (λ p. Some p.1) (get_or-map pair_values items i gone (pair_values gone) within ∙ ap pair_values (sym c.remove-pair.ensures.value)) in
    let made = ap (λ xs. bucket s (map pair_values xs)) c.remove-pair.ensures.items ∙ ap (bucket s) (map_remove pair_values items i within) in
    record {
      taken = (given ∙ ap Some (sym c.into_value.ensures), ap holds (ap Some c.into_value.ensures ∙ sym given ∙ found) ∙ ap (λ v. holds (Some v)) (sym c.value.ensures) ∙ sym c.holds_of.ensures ∙ c.if-not-holds_of.false);
      writes = subst (Writes R path level s k None (bucket before es)) (sym made)
          (removes_pair R path g.met.K.Ord.total g.met.K.PathKey.exact level s before k es i (pair_values pair) trie (omega (arith, length-map items pair_values, c.requires)) at);
      fewer = ap (λ t. length (entries t) + 1) made ∙ length-remove es i at.within;
    }
