use Rattle.std.proofs.Common.{◌≡◌, ap, sym, ◌∙◌, get_or}
use Rattle.std.specs.declared.cmp.Ordering.TheVariants.{Equal}
use Rattle.trie_shape.specs.View.{pair_values}
use Rattle.trie_copy.proofs.Taken.{at_place, equal_of_index}
use Rattle.trie_copy.proofs.pair_removal.place_of.Goals as goal

pub returns-then-eq-clause-there : goal.returns-then-eq-clause-there
returns-then-eq-clause-there g c =
    let a = c.args in
    let tie : g.K.Ord.cmp (g.Q.Sought.key_of a.key) (pair_values (get_or a.pairs.now c.loop-i.i c.index-pairs-i.result)).0 ≡ Equal =
    ap (λ p. g.K.Ord.cmp (g.Q.Sought.key_of a.key) p.0) (sym c.index-pairs-i.is) ∙ ap (g.K.Ord.cmp (g.Q.Sought.key_of a.key)) (sym c.key.ensures) ∙ sym c.compare_with.ensures ∙ equal_of_index c.compare_with.result (sym c.eq.ensures ∙ c.if-eq.true) in
    at_place g.K.Ord.cmp g.met.K.PathKey.exact pair_values (g.Q.Sought.key_of a.key) a.pairs.now c.loop-i.i c.index-pairs-i.result c.loop-i-test.true tie c.loop-i.invariant
