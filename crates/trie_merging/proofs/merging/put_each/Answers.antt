use Rattle.std.proofs.Common.{◌≡◌, ◌+◌, ◌<◌, length, map, take, get_or, option_map, sym, ap, ◌∙◌, subst, arith}
use Rattle.std.proofs.lemmas.List.{length-map, get_or-map}
use Rattle.trie_merging.specs.Merges.{PutsEach}
use Rattle.trie_shape.specs.View.{tree, pair_values}
use Rattle.trie_merging.proofs.EachPut.{agree_next, each_written, each_kept}
use Rattle.trie_merging.proofs.merging.put_each.Goals as goal
use Rattle.trie_merging.proofs.merging.put_each.Goals.{in-Some, in_default}

pub put_another-requires-clause-agree : goal.put_another-requires-clause-agree
put_another-requires-clause-agree g c =
    let R = g.K.Ord.cmp in
    let path = g.K.PathKey.path_of in
    let a = c.args in
    let i = c.loop-old.old-index in
    let item = c.old-item.result in
    let es = map pair_values a.pairs.now in
    let within : i < length a.pairs.now = omega (arith, c.loop-old-test.true) in
    let lt : i < length es = omega (arith, within, length-map a.pairs.now pair_values) in
    let is : pair_values item ≡ get_or es i (pair_values item) = ap pair_values c.old-item.is ∙ sym (get_or-map pair_values a.pairs.now i item (pair_values item) within) in
    agree_next R path g.met.K.Ord.total g.met.K.PathKey.exact a.level a.stamp.0 (g.C.Condition.holds a.condition.now) a.stamp.0 es (tree a.node.now) c.requires i (pair_values item) lt is (tree c.loop-old.all) c.loop-old.invariant

pub loop-old-preserved : goal.loop-old-preserved
loop-old-preserved g c =
    let R = g.K.Ord.cmp in
    let path = g.K.PathKey.path_of in
    let holds = g.C.Condition.holds c.args.condition.now in
    let a = c.args in
    let i = c.loop-old.old-index in
    let item = c.old-item.result in
    let es = map pair_values a.pairs.now in
    let within : i < length a.pairs.now = omega (arith, c.loop-old-test.true) in
    let lt : i < length es = omega (arith, within, length-map a.pairs.now pair_values) in
    let is : pair_values item ≡ get_or es i (pair_values item) = ap pair_values c.old-item.is ∙ sym (get_or-map pair_values a.pairs.now i item (pair_values item) within) in
    let found = c.in_ok-root.field-0 in
    let previous = option_map (λ p. p.now.1) found.previous in
    let made = option_map tree found.root in
    let writes = c.in_ok-root.ensures in
    elim c.match-root.branch [
      | in-Some w ↦ subst (λ n. PutsEach R path a.level a.stamp.0 holds (take (i + 1) es) (tree a.node.now) (tree n)) (sym (w.all-is ∙ w.replace.ensures.after))
          (each_written R path g.met.K.Ord.total g.met.K.PathKey.exact a.level a.stamp.0 holds a.stamp.0 es (tree a.node.now) c.requires i (pair_values item) lt is (tree c.loop-old.all) c.loop-old.invariant previous made writes (tree w.in-Some.next) (ap (option_map tree) w.in-Some.is))
      | in_default w ↦ subst (λ n. PutsEach R path a.level a.stamp.0 holds (take (i + 1) es) (tree a.node.now) (tree n)) (sym w.all-is)
          (each_kept R path g.met.K.Ord.total g.met.K.PathKey.exact a.level a.stamp.0 holds a.stamp.0 es (tree a.node.now) c.requires i (pair_values item) lt is (tree c.loop-old.all) c.loop-old.invariant previous made writes (ap (option_map tree) w.in_default.is))
    ]
