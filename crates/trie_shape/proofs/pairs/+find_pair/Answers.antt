use Rattle.std.proofs.Common.{map, rules, subst, sym, ap, ◌∙◌, arith, T, [], ◌∷◌}
use Rattle.std.specs.FinMap.{find, is_sorted}
use Rattle.trie_shape.specs.View.{pair_values}
use Rattle.trie_shape.proofs.Halves.{cut, sorted_before, sorted_behind, found_before, found_there, found_behind}
use Rattle.trie_shape.proofs.pairs.+find_pair.Goals as goal

pub find_pair-requires : goal.find_pair-requires
find_pair-requires g t c κs within =
    let R = g.K.Ord.cmp in
    let halves = c.split_at.ensures in
    let split = c.in-Some.ensures.cases in
    let both = cut pair_values c.args.pairs.now c.split_at.result.0.now c.split_at.result.1.now c.in-Some.behind.now _ c.in-Some.pair.now halves.front halves.back split.0 in
    let sorted = subst (λ l. T (is_sorted R l)) both c.requires.sorted in
    (omega (arith, halves.back_len, halves.front_len, split.1), (search rules, (search rules, (search rules, (search rules, (search rules, (search rules, sorted_before R _ _ sorted)))))))

pub find_pair-requires-in-Greater : goal.find_pair-requires-in-Greater
find_pair-requires-in-Greater g t c κs within =
    let R = g.K.Ord.cmp in
    let halves = c.split_at.ensures in
    let split = c.in-Some.ensures.cases in
    let both = cut pair_values c.args.pairs.now c.split_at.result.0.now c.split_at.result.1.now c.in-Some.behind.now _ c.in-Some.pair.now halves.front halves.back split.0 in
    let sorted = subst (λ l. T (is_sorted R l)) both c.requires.sorted in
    (omega (arith, halves.back_len, halves.front_len, split.1), (search rules, (search rules, (search rules, (search rules, (search rules, (search rules, sorted_behind R (pair_values c.in-Some.pair.now ∷ []) (map pair_values c.in-Some.behind.now) (sorted_behind R (map pair_values c.split_at.result.0.now) (pair_values c.in-Some.pair.now ∷ map pair_values c.in-Some.behind.now) sorted))))))))

pub returns-in-Less : goal.returns-in-Less
returns-in-Less g t c =
    let R = g.K.Ord.cmp in
    let key = g.Q.Sought.key_of c.args.key in
    let halves = c.split_at.ensures in
    let split = c.in-Some.ensures.cases in
    let both = cut pair_values c.args.pairs.now c.split_at.result.0.now c.split_at.result.1.now c.in-Some.behind.now _ c.in-Some.pair.now halves.front halves.back split.0 in
    let sorted = subst (λ l. T (is_sorted R l)) both c.requires.sorted in
    let order = ap (R key) (sym c.key.ensures) ∙ sym c.compare_with.ensures ∙ c.in-Less.is in
    c.find_pair.ensures ∙ sym (ap (find R key) both ∙ found_before R g.met.K.Ord.total key _ _ _ order sorted)

pub returns-in-Equal : goal.returns-in-Equal
returns-in-Equal g t c =
    let R = g.K.Ord.cmp in
    let key = g.Q.Sought.key_of c.args.key in
    let halves = c.split_at.ensures in
    let split = c.in-Some.ensures.cases in
    let both = cut pair_values c.args.pairs.now c.split_at.result.0.now c.split_at.result.1.now c.in-Some.behind.now _ c.in-Some.pair.now halves.front halves.back split.0 in
    let sorted = subst (λ l. T (is_sorted R l)) both c.requires.sorted in
    let order = ap (R key) (sym c.key.ensures) ∙ sym c.compare_with.ensures ∙ c.in-Equal.is in
    sym (ap (find R key) both ∙ found_there R g.met.K.Ord.total key _ _ _ order sorted)

pub returns-in-Greater : goal.returns-in-Greater
returns-in-Greater g t c =
    let R = g.K.Ord.cmp in
    let key = g.Q.Sought.key_of c.args.key in
    let halves = c.split_at.ensures in
    let split = c.in-Some.ensures.cases in
    let both = cut pair_values c.args.pairs.now c.split_at.result.0.now c.split_at.result.1.now c.in-Some.behind.now _ c.in-Some.pair.now halves.front halves.back split.0 in
    let sorted = subst (λ l. T (is_sorted R l)) both c.requires.sorted in
    let order = ap (R key) (sym c.key.ensures) ∙ sym c.compare_with.ensures ∙ c.in-Greater.is in
    c.find_pair-in-Greater.ensures ∙ sym (ap (find R key) both ∙ found_behind R g.met.K.Ord.total key _ _ _ order sorted)
