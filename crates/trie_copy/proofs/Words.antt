-- A put among pairs of one word.
use Rattle.std.proofs.Common.{◌≡◌, ℕ, ◌+◌, ◌<◌, ◌≤◌, ◌^◌, Bool, true, false, cond, List, [], ◌∷◌, length, get_or, Some, None, is_some, refl, sym, ap, ◌∙◌, subst, arith}
use mathlib.Core.Bool.{false≢true}
use Rattle.std.specs.declared.cmp.Ordering.{Ordering}
use Rattle.std.specs.declared.cmp.Ordering.TheVariants.{Less, Equal, Greater}
use Rattle.std.specs.Ordering.{eq_by_cmp, is_eq}
use Rattle.std.specs.Cmp.{IsTotalOrder}
use Rattle.std.specs.FinMap.{find}
use Rattle.std.specs.FinMap.Entries.{put, by_order, find-put, length-put, is_sorted-put}
use Rattle.hash_path.specs.Digits.{word_bits}
use Rattle.trie_shape.specs.Tree.{bucket, KeysHaveWord, IsTrie}
use Rattle.trie_shape.specs.Shape.{nodes_below}
use Rattle.trie_shape.specs.Roots.{word_of}
use Rattle.trie_copy.specs.Writes.{Writes}
use Rattle.trie_shape.proofs.Finds.{tied}
use Rattle.trie_shape.proofs.Finds.{found_first}
use Rattle.trie_copy.proofs.Taken.{stamped}

one_more : (b : Bool) (n m : ℕ) → m ≡ cond b n (n + 1) → (n ≤ m) × (m ≤ n + 1)
one_more true n m e = (omega arith, omega arith)
one_more false n m e = (omega arith, omega arith)

module _ {K V : Type 0} (R : K → K → Ordering) (path : K → ℕ) (total : IsTotalOrder R) (exact : (x y : K) → R x y ≡ Equal → x ≡ y) where
  -- where a key is found, all keys have its word
  pub word_of_found : (k : K) (w : ℕ) (es : List (K × V)) → KeysHaveWord R path w es → is_some (find R k es) ≡ true → KeysHaveWord R path (path k) es
  word_of_found k w es words there q found = words q found ∙ sym (words k there)

  -- and the first key is found
  pub word_of_first : (w : ℕ) (es : List (K × V)) (e : K × V) → 0 < length es → e ≡ get_or es 0 e → KeysHaveWord R path w es → KeysHaveWord R path (path e.0) es
  word_of_first w [] e some is words = absurd (omega arith)
  word_of_first w (x ∷ es) e some is words = word_of_found e.0 w (x ∷ es) words (ap (λ y. is_some (find R y.0 (x ∷ es))) is ∙ ap is_some (found_first R total exact x es))

  -- a word that keys have has 32 bits
  pub word_is_small : ((q : K) → path q < 2 ^ word_bits) → (w : ℕ) (es : List (K × V)) → 0 < length es → KeysHaveWord R path w es → w < 2 ^ word_bits
  word_is_small small w [] some words = absurd (omega arith)
  word_is_small small w (e ∷ es) some words = let P : ℕ → Type 0 = λ n. n < 2 ^ word_bits in subst P (words e.0 (ap is_some (found_first R total exact e es))) (small e.0)

  module _ (k : K) (v : V) where
    -- a put of the only key is a leaf
    put_alone : (e : K × V) → is_some (find R k (e ∷ [])) ≡ true → put R k v (e ∷ []) ≡ (k, v) ∷ []
    put_alone e there = of_order (R k e.0) refl there
      where
        of_order : (r : Ordering) → R k e.0 ≡ r → is_some (cond (is_eq r) (Some e.1) None) ≡ true → put R k v (e ∷ []) ≡ (k, v) ∷ []
        of_order Less is h = absurd (false≢true h)
        of_order Equal is _ = ap (λ r. by_order r ((k, v) ∷ e ∷ []) ((e.0, v) ∷ []) (e ∷ (k, v) ∷ [])) is ∙ ap (λ x. (x, v) ∷ []) (sym (exact k e.0 is))
        of_order Greater is h = absurd (false≢true h)

    pub put_only : (es : List (K × V)) → length es ≡ 1 → is_some (find R k es) ≡ true → put R k v es ≡ (k, v) ∷ []
    put_only [] one there = absurd (omega arith)
    put_only (e ∷ []) one there = put_alone e there
    put_only (e ∷ x ∷ es) one there = absurd (omega arith)

    -- a put of a key of the word
    pub puts_in_word : (level stamp before : ℕ) (es : List (K × V)) → IsTrie R path level (bucket before es) → KeysHaveWord R path (path k) es → Writes R path level stamp k (Some v) (bucket before es) (bucket stamp (put R k v es))
    puts_in_word level stamp before es trie words =
        let long = one_more (is_some (find R k es)) (length es) (length (put R k v es)) (length-put R total k v es trie.3) in
        let kept : KeysHaveWord R path (path k) (put R k v es) = λ q found. of_tie q (eq_by_cmp R q k) refl (sym (ap is_some (find-put R total q k v es)) ∙ found) in
        record {
          trie = (trie.0, omega (arith, long.0, trie.1), (path k, kept), is_sorted-put R total k v es trie.3);
          finds = λ q. find-put R total q k v es;
          least = omega (arith, long.0);
          most = long.1;
          stamps = λ p deep on. stamped R path total exact stamp k p (nodes_below (word_of path) p (bucket before es)) (put R k v es) kept;
        }
      where
        of_tie : (q : K) (b : Bool) → eq_by_cmp R q k ≡ b → is_some (cond b (Some v) (find R q es)) ≡ true → path q ≡ path k
        of_tie q true e found = ap path (exact q k (tied (R q k) e))
        of_tie q false e found = words q found
