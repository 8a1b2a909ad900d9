use Rattle.std.proofs.Common.{rules, ◌≡◌, ◌+◌, ◌<◌, [], ◌∷◌, ◌++◌, length, map, take, sym, ap, ◌∙◌, subst, arith}
use Rattle.std.proofs.lemmas.List.{map-append}
use Rattle.trie_shape.specs.View.{pair_values}
use Rattle.trie_filter.specs.Few.{IsFew, items_of}
use Rattle.trie_filter.specs.Passing.{AreChosen}
use Rattle.trie_values.specs.Values.{MayAnswer}
use Rattle.trie_filter.proofs.Chosen.{chosen_more, chosen_same}
use Rattle.trie_filter.proofs.passing.pass_pairs.Goals as goal
use Rattle.trie_filter.proofs.passing.pass_pairs.Goals.{then-answer_at+in-Ok+in_ok-left, else-answer_at}

pub loop-pair-preserved : goal.loop-pair-preserved
loop-pair-preserved g c =
    let gives = MayAnswer g.F.Fn c.args.test.now in
    let pairs = c.args.pairs.now in
    let i = c.loop-pair.pair-index in
    let item = c.pair-item.result in
    let within : i < length pairs = omega (arith, c.loop-pair-test.true) in
    let old = items_of c.loop-pair.left in
    let told : gives (pair_values item).0 (pair_values item).1 c.answer_at.result = subst (λ k. gives k (pair_values item).1 c.answer_at.result) c.key.ensures (subst (λ v. gives c.key.result.now v c.answer_at.result) c.value.ensures c.answer_at.ensures) in
    elim c.if-answer_at.branch [
      | then-answer_at+in-Ok+in_ok-left w ↦
          let pair : w.in-Ok.other ≡ pair_values item = search rules in
          let grown = ap (map pair_values) w.in_ok-left.ensures.items ∙ map-append pair_values old _ ∙ ap (λ x. map pair_values old ++ x ∷ []) pair in
          record {
            chosen = subst (λ l. AreChosen gives (map pair_values (take (i + 1) pairs)) (map pair_values (items_of l))) (sym w.left-is)
                (chosen_more gives pair_values pairs i item within c.pair-item.is (map pair_values old) c.loop-pair.invariant.chosen (subst (gives (pair_values item).0 (pair_values item).1) w.if-answer_at.true told) _ grown);
            few = subst IsFew (sym w.left-is) w.in_ok-left.ensures.few;
          }
      | else-answer_at w ↦ record {
        chosen = subst (λ l. AreChosen gives (map pair_values (take (i + 1) pairs)) (map pair_values (items_of l))) (sym w.left-is)
            (chosen_same gives pair_values pairs i item within c.pair-item.is (map pair_values old) c.loop-pair.invariant.chosen (subst (gives (pair_values item).0 (pair_values item).1) w.if-answer_at.false told));
        few = subst IsFew (sym w.left-is) c.loop-pair.invariant.few;
      }
    ]
