use Rattle.std.proofs.Common.{◌≡◌, ◌<◌, arith, length, get_or, Some, map, sym, ap, ◌∙◌, subst}
use Rattle.std.specs.FinMap.Entries.{put}
use Rattle.std.proofs.lemmas.Bool.{eqb-true}
use Rattle.std.proofs.lemmas.List.{length-map, get_or-map}
use Rattle.trie_shape.specs.Outline.{stamp_of}
use Rattle.trie_shape.specs.Tree.{bucket, KeysHaveWord, IsTrie}
use Rattle.trie_shape.specs.View.{tree, pair_values}
use Rattle.trie_copy.specs.Writes.{Writes}
use Rattle.trie_shape.proofs.Views.{on_ok}
use Rattle.trie_copy.proofs.Words.{word_of_found, word_of_first, puts_in_word}
use Rattle.trie_copy.proofs.put.put_among.Goals as goal

pub returns-then-present : goal.returns-then-present
returns-then-present g c =
    let R = g.K.Ord.cmp in
    let path = g.K.PathKey.path_of in
    let total = g.met.K.Ord.total in
    let exact = g.met.K.PathKey.exact in
    let a = c.args in
    let k = a.entry.pair.0 in
    let v = a.entry.pair.1 in
    let s = a.entry.stamp.0 in
    let t0 = tree a.node.now in
    let es = map pair_values a.pairs.now in
    let trie = subst (IsTrie R path a.level) c.requires.pairs c.requires.trie in
    let words = word_of_found R path total exact k trie.2.0 es trie.2.1 (sym c.requires.present ∙ c.if-present.true) in
    let writes = puts_in_word R path total exact k v a.level s (stamp_of t0) es trie words in
    on_ok c.replace_value.result _ _ (λ n made. subst (Writes R path a.level s k (Some v) t0) (sym made) (subst (λ x. Writes R path a.level s k (Some v) x (bucket s (put R k v es))) (sym c.requires.pairs) writes)) c.replace_value.ensures

pub returns-then-eq : goal.returns-then-eq
returns-then-eq g c =
    let R = g.K.Ord.cmp in
    let path = g.K.PathKey.path_of in
    let total = g.met.K.Ord.total in
    let exact = g.met.K.PathKey.exact in
    let a = c.args in
    let k = a.entry.pair.0 in
    let v = a.entry.pair.1 in
    let s = a.entry.stamp.0 in
    let t0 = tree a.node.now in
    let es = map pair_values a.pairs.now in
    let first = c.index-pairs-0.result in
    let trie = subst (IsTrie R path a.level) c.requires.pairs c.requires.trie in
    let some : 0 < length a.pairs.now = omega (arith, trie.1, length-map a.pairs.now pair_values) in
    let is : pair_values first ≡ get_or es 0 (pair_values first) = ap pair_values c.index-pairs-0.is ∙ sym (get_or-map pair_values a.pairs.now 0 first (pair_values first) some) in
    let same : path first.0 ≡ path k = ap path (sym c.key.ensures) ∙ sym c.path-old_path.ensures ∙ eqb-true c.path-old_path.result.0 a.entry.path.0 (sym c.eq.ensures ∙ c.if-eq.true) ∙ c.requires.path in
    let words = subst (λ w. KeysHaveWord R path w es) same (word_of_first R path total exact trie.2.0 es (pair_values first) trie.1 is trie.2.1) in
    let writes = puts_in_word R path total exact k v a.level s (stamp_of t0) es trie words in
    on_ok c.put_in_bucket.result _ _ (λ n made. subst (Writes R path a.level s k (Some v) t0) (sym made) (subst (λ x. Writes R path a.level s k (Some v) x (bucket s (put R k v es))) (sym c.requires.pairs) writes)) c.put_in_bucket.ensures
