use Rattle.std.proofs.Common.{◌+◌, ◌&&◌, map, length, ap, sym, ◌∙◌, subst, arith, is_some, Some}
use Rattle.std.proofs.lemmas.List.{length-map}
use Rattle.std.proofs.lemmas.List.Edits.{length-remove}
use Rattle.trie_shape.specs.Tree.{bucket, entries}
use Rattle.trie_shape.specs.View.{pair_values}
use Rattle.trie_copy.specs.Writes.{Writes}
use Rattle.trie_copy.proofs.Taken.{removes_pair, takes_only, value_at_place}
use Rattle.trie_copy.proofs.Cases.{at_err}
use Rattle.trie_copy.proofs.pair_removal.take_pair.Goals as goal

pub returns-then-not-holds-clause-ok : goal.returns-then-not-holds-clause-ok
returns-then-not-holds-clause-ok g c =
    let R = g.K.Ord.cmp in
    let value = value_at_place R pair_values (g.Q.Sought.key_of c.args.key) c.args.pairs.now c.in-Some.at c.index-pairs-at.result c.in-Some.ensures.there ∙ ap (λ p. Some (pair_values p).1) (sym c.index-pairs-at.is) in
    λ level before trie. (sym value, ap (λ o. is_some o && g.C.Condition.holds c.args.condition.now o) (value ∙ ap Some (sym c.value.ensures)) ∙ sym c.holds.ensures ∙ c.if-not-holds.true)

pub returns-then-pairs-eq1-clause-ok : goal.returns-then-pairs-eq1-clause-ok
returns-then-pairs-eq1-clause-ok g c =
    let R = g.K.Ord.cmp in
    let at = c.in-Some.ensures.there in
    let value = value_at_place R pair_values (g.Q.Sought.key_of c.args.key) c.args.pairs.now c.in-Some.at c.index-pairs-at.result at ∙ ap (λ p. Some (pair_values p).1) (sym c.index-pairs-at.is) in
    let one = length-map c.args.pairs.now pair_values ∙ c.if-pairs-eq1.true in
    λ level before trie. ((value, ap (λ v. g.C.Condition.holds c.args.condition.now (Some v)) (sym c.value.ensures) ∙ sym c.holds.ensures ∙ c.if-not-holds.false), takes_only R g.K.PathKey.path_of g.met.K.Ord.total g.met.K.PathKey.exact level before (g.Q.Sought.key_of c.args.key) (map pair_values c.args.pairs.now) c.in-Some.at trie at one, trie.0)

pub returns-clause-ok : goal.returns-clause-ok
returns-clause-ok g c =
    let R = g.K.Ord.cmp in
    let path = g.K.PathKey.path_of in
    let es = map pair_values c.args.pairs.now in
    let at = c.in-Some.ensures.there in
    let value = value_at_place R pair_values (g.Q.Sought.key_of c.args.key) c.args.pairs.now c.in-Some.at c.index-pairs-at.result at ∙ ap (λ p. Some (pair_values p).1) (sym c.index-pairs-at.is) in
    let long = length-map c.args.pairs.now pair_values in
    let made = c.in_ok-rest.ensures in
    λ level before trie.
    let writes = removes_pair R path g.met.K.Ord.total g.met.K.PathKey.exact level c.args.stamp.0 before (g.Q.Sought.key_of c.args.key) es c.in-Some.at (pair_values c.index-pairs-at.result) trie (omega (arith, long, trie.1, c.if-pairs-eq1.false)) at in
    record {
      taken = (value, ap (λ v. g.C.Condition.holds c.args.condition.now (Some v)) (sym c.value.ensures) ∙ sym c.holds.ensures ∙ c.if-not-holds.false);
      writes = subst (Writes R path level c.args.stamp.0 (g.Q.Sought.key_of c.args.key) _ (bucket before es)) (sym made) writes;
      fewer = ap (λ t. length (entries t) + 1) made ∙ length-remove es c.in-Some.at at.within;
    }

pub returns-in_err-rest-clause-due : goal.returns-in_err-rest-clause-due
returns-in_err-rest-clause-due g c =
    let value = value_at_place g.K.Ord.cmp pair_values (g.Q.Sought.key_of c.args.key) c.args.pairs.now c.in-Some.at c.index-pairs-at.result c.in-Some.ensures.there ∙ ap (λ p. Some (pair_values p).1) (sym c.index-pairs-at.is) in
    at_err c.from_residual.result (ap (λ o. is_some o && g.C.Condition.holds c.args.condition.now o) (value ∙ ap Some (sym c.value.ensures)) ∙ sym c.holds.ensures ∙ c.if-not-holds.false)
