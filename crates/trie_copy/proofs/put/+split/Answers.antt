use Rattle.std.proofs.Common.{rules, ◌≡◌, ◌≢◌, ℕ, ◌+◌, ◌*◌, ◌<◌, ◌≤◌, ◌%◌, ◌^◌, [], ◌∷◌, Some, map, length, sym, ap, ◌∙◌, subst, arith, set, bit_or}
use Rattle.std.specs.List.{insert}
use Rattle.std.specs.Int.RustNames.{count_ones}
use Rattle.hash_path.specs.Digits.{word_bits, digit, digit_bits}
use Rattle.trie_shape.specs.Outline.{stamp_of}
use Rattle.trie_shape.specs.Tree.{branch, bucket, trees, entries, IsTrie}
use Rattle.trie_shape.specs.View.{tree}
use Rattle.trie_copy.specs.Writes.{Writes}
use Rattle.trie_shape.proofs.Bits.{agree_more}
use Rattle.trie_shape.proofs.Divides.{trie_fits}
use Rattle.trie_shape.proofs.Ones.{ones_single}
use Rattle.trie_copy.proofs.Splits.{one_digit, one_digit_other, level_within, place_beside, puts_beside, puts_further}
use Rattle.trie_shape.proofs.Views.{on_ok}
use Rattle.trie_copy.proofs.Words.{word_is_small}
use Rattle.trie_copy.proofs.put.+split.Goals as goal

pub digit-digit-requires : goal.digit-digit-requires
digit-digit-requires g t c =
    let R = g.K.Ord.cmp in
    let path = g.K.PathKey.path_of in
    let a = c.args in
    let t0 = tree a.old.now in
    let trie = subst (IsTrie R path a.level) c.requires.bucket c.requires.trie in
    let w_small = word_is_small R path g.met.K.Ord.total g.met.K.PathKey.exact g.met.K.PathKey.small a.old_path.0 (entries t0) trie.1 c.requires.word in
    let k_small : a.entry.path.0 < 2 ^ word_bits = let P : ℕ → Type 0 = λ n. n < 2 ^ word_bits in subst P (sym c.requires.path) (g.met.K.PathKey.small a.entry.pair.0) in
    let within = level_within a.old_path.0 a.entry.path.0 a.level w_small k_small c.requires.apart c.requires.agree in
    within

pub digit-old_digit-requires : goal.digit-old_digit-requires
digit-old_digit-requires g t c =
    let R = g.K.Ord.cmp in
    let path = g.K.PathKey.path_of in
    let a = c.args in
    let t0 = tree a.old.now in
    let trie = subst (IsTrie R path a.level) c.requires.bucket c.requires.trie in
    let w_small = word_is_small R path g.met.K.Ord.total g.met.K.PathKey.exact g.met.K.PathKey.small a.old_path.0 (entries t0) trie.1 c.requires.word in
    let k_small : a.entry.path.0 < 2 ^ word_bits = let P : ℕ → Type 0 = λ n. n < 2 ^ word_bits in subst P (sym c.requires.path) (g.met.K.PathKey.small a.entry.pair.0) in
    let within = level_within a.old_path.0 a.entry.path.0 a.level w_small k_small c.requires.apart c.requires.agree in
    within

pub overflow_add-level : goal.overflow_add-level
overflow_add-level g t c =
    let R = g.K.Ord.cmp in
    let path = g.K.PathKey.path_of in
    let a = c.args in
    let t0 = tree a.old.now in
    let trie = subst (IsTrie R path a.level) c.requires.bucket c.requires.trie in
    let w_small = word_is_small R path g.met.K.Ord.total g.met.K.PathKey.exact g.met.K.PathKey.small a.old_path.0 (entries t0) trie.1 c.requires.word in
    let k_small : a.entry.path.0 < 2 ^ word_bits = let P : ℕ → Type 0 = λ n. n < 2 ^ word_bits in subst P (sym c.requires.path) (g.met.K.PathKey.small a.entry.pair.0) in
    let within = level_within a.old_path.0 a.entry.path.0 a.level w_small k_small c.requires.apart c.requires.agree in
    omega (arith, within)

pub split-requires : goal.split-requires
split-requires g t c κs inside =
    let R = g.K.Ord.cmp in
    let path = g.K.PathKey.path_of in
    let a = c.args in
    let t0 = tree a.old.now in
    let trie = subst (IsTrie R path a.level) c.requires.bucket c.requires.trie in
    let w_small = word_is_small R path g.met.K.Ord.total g.met.K.PathKey.exact g.met.K.PathKey.small a.old_path.0 (entries t0) trie.1 c.requires.word in
    let k_small : a.entry.path.0 < 2 ^ word_bits = let P : ℕ → Type 0 = λ n. n < 2 ^ word_bits in subst P (sym c.requires.path) (g.met.K.PathKey.small a.entry.pair.0) in
    let within = level_within a.old_path.0 a.entry.path.0 a.level w_small k_small c.requires.apart c.requires.agree in
    let below : IsTrie R path (a.level + 1) t0 = subst (IsTrie R path (a.level + 1)) (sym c.requires.bucket) (omega arith, trie.1, trie.2, trie.3) in
    let same : digit a.old_path.0 a.level ≡ digit a.entry.path.0 a.level = sym c.digit-old_digit.ensures.value ∙ c.if-old_digit-digit.true ∙ c.digit-digit.ensures.value in
    let agree = subst (λ n. a.old_path.0 % 2 ^ n ≡ a.entry.path.0 % 2 ^ n) {x = digit_bits + digit_bits * a.level} {y = digit_bits * (a.level + 1)} (omega arith) (agree_more a.old_path.0 a.entry.path.0 a.level c.requires.agree same) in
    (omega (arith, within), (search rules, (search rules, (search rules, (search rules, (search rules, (c.requires.bucket, (below, (c.requires.word, (c.requires.path, (c.requires.apart, (agree, (c.requires.size, c.requires.room)))))))))))))

pub with_child-requires-clause-count : goal.with_child-requires-clause-count
with_child-requires-clause-count g t c =
    ap length c.from_ref.ensures.value ∙ sym (ones_single c.digit-digit.result c.digit-digit.ensures.small)

pub add_leaf-requires-clause-count : goal.add_leaf-requires-clause-count
add_leaf-requires-clause-count g t c =
    ap length c.from_ref-else-old_digit-digit.ensures.value ∙ sym (ones_single c.digit-old_digit.result c.digit-old_digit.ensures.small)

pub add_leaf-requires-clause-lacks : goal.add_leaf-requires-clause-lacks
add_leaf-requires-clause-lacks g t c =
    one_digit_other c.digit-old_digit.result c.digit-digit.result c.digit-old_digit.ensures.small (λ same. c.if-old_digit-digit.false (sym same))

pub add_leaf-requires-clause-place : goal.add_leaf-requires-clause-place
add_leaf-requires-clause-place g t c =
    let R = g.K.Ord.cmp in
    let path = g.K.PathKey.path_of in
    let a = c.args in
    let t0 = tree a.old.now in
    let trie = subst (IsTrie R path a.level) c.requires.bucket c.requires.trie in
    let w_small = word_is_small R path g.met.K.Ord.total g.met.K.PathKey.exact g.met.K.PathKey.small a.old_path.0 (entries t0) trie.1 c.requires.word in
    let k_small : a.entry.path.0 < 2 ^ word_bits = let P : ℕ → Type 0 = λ n. n < 2 ^ word_bits in subst P (sym c.requires.path) (g.met.K.PathKey.small a.entry.pair.0) in
    let within = level_within a.old_path.0 a.entry.path.0 a.level w_small k_small c.requires.apart c.requires.agree in
    let k = a.entry.pair.0 in
    let v = a.entry.pair.1 in
    let s = a.entry.stamp.0 in
    let d = c.digit-old_digit in
    let e = c.digit-digit in
    let apart : a.old_path.0 ≢ path k = λ same. c.requires.apart (same ∙ sym c.requires.path) in
    let there = sym d.ensures.value in
    let es = entries t0 in
    let ne : e.result ≢ d.result = λ same. c.if-old_digit-digit.false (sym same) in
    let one = place_beside R path g.met.K.Ord.total g.met.K.PathKey.exact a.level s k v (stamp_of t0) es trie a.old_path.0 d.result c.requires.word apart within there d.ensures.small e.result e.ensures.small ne in
    subst (λ xs. count_ones (one_digit d.result % 2 ^ e.result) ≤ length xs) (sym c.from_ref-else-old_digit-digit.ensures.value) one

pub returns-in_ok-child : goal.returns-in_ok-child
returns-in_ok-child g t c =
    let R = g.K.Ord.cmp in
    let path = g.K.PathKey.path_of in
    let a = c.args in
    let t0 = tree a.old.now in
    let trie = subst (IsTrie R path a.level) c.requires.bucket c.requires.trie in
    let w_small = word_is_small R path g.met.K.Ord.total g.met.K.PathKey.exact g.met.K.PathKey.small a.old_path.0 (entries t0) trie.1 c.requires.word in
    let k_small : a.entry.path.0 < 2 ^ word_bits = let P : ℕ → Type 0 = λ n. n < 2 ^ word_bits in subst P (sym c.requires.path) (g.met.K.PathKey.small a.entry.pair.0) in
    let within = level_within a.old_path.0 a.entry.path.0 a.level w_small k_small c.requires.apart c.requires.agree in
    let k = a.entry.pair.0 in
    let v = a.entry.pair.1 in
    let s = a.entry.stamp.0 in
    let d = c.digit-old_digit in
    let e = c.digit-digit in
    let apart : a.old_path.0 ≢ path k = λ same. c.requires.apart (same ∙ sym c.requires.path) in
    let here = ap (λ w. digit w a.level) (sym c.requires.path) ∙ sym e.ensures.value in
    let there = sym d.ensures.value in
    let es = entries t0 in
    let u = tree c.in_ok-child.child in
    let writes : Writes R path (a.level + 1) s k (Some v) (bucket (stamp_of t0) es) u = subst (λ x. Writes R path (a.level + 1) s k (Some v) x u) c.requires.bucket c.in_ok-child.ensures in
    let all : c.size-all.result ≡ length (entries u) = c.size-all.ensures (trie_fits R path (a.level + 1) u writes.trie) in
    on_ok c.with_child.result _ _ (λ n made.
    subst (λ x. Writes R path a.level s k (Some v) x (tree n)) (sym c.requires.bucket)
    (puts_further R path g.met.K.Ord.total g.met.K.PathKey.exact a.level s k v (stamp_of t0) es trie a.old_path.0 d.result c.requires.word apart within there d.ensures.small (here ∙ sym c.if-old_digit-digit.true) u writes (tree n)
    (made ∙ (λ i. branch s (all i) (one_digit (sym c.if-old_digit-digit.true i)) (trees (set (map tree (c.from_ref.ensures.value i)) 0 u)))
    ∙ ap (λ x. branch s (length (entries u)) (one_digit d.result) (trees (set (x ∷ []) 0 u))) c.requires.bucket))) c.with_child.ensures

pub returns-else-old_digit-digit : goal.returns-else-old_digit-digit
returns-else-old_digit-digit g t c =
    let R = g.K.Ord.cmp in
    let path = g.K.PathKey.path_of in
    let a = c.args in
    let t0 = tree a.old.now in
    let trie = subst (IsTrie R path a.level) c.requires.bucket c.requires.trie in
    let w_small = word_is_small R path g.met.K.Ord.total g.met.K.PathKey.exact g.met.K.PathKey.small a.old_path.0 (entries t0) trie.1 c.requires.word in
    let k_small : a.entry.path.0 < 2 ^ word_bits = let P : ℕ → Type 0 = λ n. n < 2 ^ word_bits in subst P (sym c.requires.path) (g.met.K.PathKey.small a.entry.pair.0) in
    let within = level_within a.old_path.0 a.entry.path.0 a.level w_small k_small c.requires.apart c.requires.agree in
    let k = a.entry.pair.0 in
    let v = a.entry.pair.1 in
    let s = a.entry.stamp.0 in
    let d = c.digit-old_digit in
    let e = c.digit-digit in
    let apart : a.old_path.0 ≢ path k = λ same. c.requires.apart (same ∙ sym c.requires.path) in
    let here = ap (λ w. digit w a.level) (sym c.requires.path) ∙ sym e.ensures.value in
    let there = sym d.ensures.value in
    let es = entries t0 in
    let ne : e.result ≢ d.result = λ same. c.if-old_digit-digit.false (sym same) in
    let leaf = bucket s ((k, v) ∷ []) in
    let wider = bit_or (one_digit d.result) (one_digit e.result) in
    let i = count_ones (one_digit d.result % 2 ^ e.result) in
    on_ok c.add_leaf.result _ _ (λ n made.
    subst (λ x. Writes R path a.level s k (Some v) x (tree n)) (sym c.requires.bucket)
    (puts_beside R path g.met.K.Ord.total g.met.K.PathKey.exact a.level s k v (stamp_of t0) es trie a.old_path.0 d.result c.requires.word apart within there d.ensures.small e.result here e.ensures.small ne (tree n)
    (made ∙ (λ j. branch s (c.requires.size j + 1) wider (trees (insert (map tree (c.from_ref-else-old_digit-digit.ensures.value j)) i leaf)))
    ∙ ap (λ x. branch s (length es + 1) wider (trees (insert (x ∷ []) i leaf))) c.requires.bucket))) c.add_leaf.ensures
