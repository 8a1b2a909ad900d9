use Rattle.std.proofs.Common.{ap, subst, sym, ◌∙◌}
use Rattle.trie_values.specs.Values.{MayAnswer}
use Rattle.trie_values.proofs.mapping.map_pair.Goals as goal

pub returns : goal.returns
returns g c =
    let may = MayAnswer g.F.Fn c.args.change.now in
    let pair = c.args.pair.now in
    let told : may pair.0 pair.1 c.answer_at.result = subst (λ k. may k pair.1 c.answer_at.result) c.key.ensures (subst (λ v. may c.key.result.now v c.answer_at.result) c.value.ensures c.answer_at.ensures) in
    let key = ap (λ p. p.0) c.new-mapped.ensures ∙ c.in_ok-another_key.ensures ∙ c.key_slot.ensures in
    (key, subst (may pair.0 pair.1) (sym (ap (λ p. p.1) c.new-mapped.ensures ∙ c.in_ok-made.ensures.ok)) told)
