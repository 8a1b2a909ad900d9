use Rattle.std.proofs.Common.{◌≡◌, ◌<◌, map, length, subst, sym, ap, ◌∙◌, add-one, arith}
use Rattle.std.proofs.lemmas.List.{length-map, get_or-map}
use Rattle.trie_shape.specs.View.{pair_values}
use Rattle.trie_puts.proofs.Placing.{ComesAfter, after_next, puts_before, puts_last, absent_before, absent_last, stands_at}
use Rattle.trie_puts.proofs.bucket_puts.place_among.Goals as goal

pub returns-in-Less : goal.returns-in-Less
returns-in-Less g c =
    let R = g.K.Ord.cmp in
    let k = c.args.key.now in
    let pairs = c.args.pairs.now in
    let i = c.loop-i.i in
    let x = c.index-pairs-i.result in
    let tie = ap (λ p. R k p.0) (get_or-map pair_values pairs i x (pair_values x) c.loop-i-test.true ∙ ap pair_values (sym c.index-pairs-i.is)) ∙ ap (R k) (sym c.key.ensures) ∙ sym c.cmp.ensures ∙ c.in-Less.is in
    let within : i < length (map pair_values pairs) = omega (arith, length-map pairs pair_values, c.loop-i-test.true) in
    record {
      within = omega (arith, length-map pairs pair_values, c.loop-i-test.true);
      absent = absent_before R g.met.K.Ord.total k i (map pair_values pairs) (pair_values x) c.requires c.loop-i.invariant within tie;
      puts = λ v. puts_before R k v i (map pair_values pairs) (pair_values x) c.loop-i.invariant within tie;
    }

pub returns-in-Equal : goal.returns-in-Equal
returns-in-Equal g c =
    let R = g.K.Ord.cmp in
    let k = c.args.key.now in
    let pairs = c.args.pairs.now in
    let i = c.loop-i.i in
    let x = c.index-pairs-i.result in
    let tie = ap (λ p. R k p.0) (get_or-map pair_values pairs i x (pair_values x) c.loop-i-test.true ∙ ap pair_values (sym c.index-pairs-i.is)) ∙ ap (R k) (sym c.key.ensures) ∙ sym c.cmp.ensures ∙ c.in-Equal.is in
    stands_at R g.met.K.Ord.total g.K.PathKey.path_of g.met.K.PathKey.exact k i (map pair_values pairs) (pair_values x) c.loop-i.invariant (omega (arith, length-map pairs pair_values, c.loop-i-test.true)) tie

pub loop-i-preserved : goal.loop-i-preserved
loop-i-preserved g c =
    let R = g.K.Ord.cmp in
    let k = c.args.key.now in
    let pairs = c.args.pairs.now in
    let i = c.loop-i.i in
    let x = c.index-pairs-i.result in
    let tie = ap (λ p. R k p.0) (get_or-map pair_values pairs i x (pair_values x) c.loop-i-test.true ∙ ap pair_values (sym c.index-pairs-i.is)) ∙ ap (R k) (sym c.key.ensures) ∙ sym c.cmp.ensures ∙ c.in-Greater.is in
    subst (λ n. ComesAfter R k n (map pair_values pairs)) (sym (add-one i))
    (after_next R k i (map pair_values pairs) (pair_values x) c.loop-i.invariant (omega (arith, length-map pairs pair_values, c.loop-i-test.true)) tie)

pub returns : goal.returns
returns g c =
    let R = g.K.Ord.cmp in
    let k = c.args.key.now in
    let pairs = c.args.pairs.now in
    let n = length pairs in
    let es = map pair_values pairs in
    let end : c.loop-i.i ≡ n = omega (arith, c.loop-i.auto.i-end, c.loop-i-test.false) in
    let after = subst (λ i. ComesAfter R k i es) end c.loop-i.invariant in
    let long : n ≡ length es = omega (arith, length-map pairs pair_values) in
    record {
      within = omega (arith, long);
      absent = absent_last R k n es after long;
      puts = λ v. puts_last R k v n es after long;
    }
