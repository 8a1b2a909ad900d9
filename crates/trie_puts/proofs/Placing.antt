-- Where a key stands or goes among pairs in the order of their keys.
use Rattle.std.proofs.Common.{◌≡◌, ℕ, zero, suc, ◌<◌, T, Bool, cond, List, [], ◌∷◌, length, set, get_or, Option, Some, None, is_some, refl, sym, ap, ◌∙◌, subst, arith}
use Rattle.std.specs.List.{insert}
use Rattle.std.specs.declared.cmp.Ordering.{Ordering}
use Rattle.std.specs.declared.cmp.Ordering.TheVariants.{Less, Equal, Greater}
use Rattle.std.specs.Ordering.{is_eq, is_lt, ordering_reverse}
use Rattle.std.specs.Cmp.{IsTotalOrder, tied_itself}
use Rattle.std.specs.FinMap.{find, is_sorted}
use Rattle.std.specs.FinMap.Entries.{put, by_order, below_all}
use Rattle.std.proofs.lemmas.List.{get_or_default}
use Rattle.trie_shape.specs.Tree.{Tree, bucket, IsTrie}
use Rattle.trie_copy.specs.Writes.{Writes}
use Rattle.trie_copy.specs.Removals.{IsAt}
use Rattle.trie_puts.specs.PutInPlace.{PutsIn}
use Rattle.trie_shape.proofs.InOrder.{left_of, right_of}
use Rattle.trie_puts.proofs.Standing.{puts_equal}
use Rattle.trie_copy.proofs.Taken.{below_at}
use Rattle.trie_copy.proofs.Words.{word_of_found, puts_in_word}

less_of : (r : Ordering) → T (is_lt r) → r ≡ Less
less_of Less h = refl
less_of Equal h = absurd h
less_of Greater h = absurd h

module _ {K V : Type 0} (R : K → K → Ordering) where
  -- k comes after the first n pairs
  abbrev pub ComesAfter : K → ℕ → List (K × V) → Type 0
  ComesAfter k zero es = Unit {0}
  ComesAfter k (suc n) [] = ⊥
  ComesAfter k (suc n) (e ∷ es) = (R k e.0 ≡ Greater) × ComesAfter k n es

  pub after_next : (k : K) (n : ℕ) (es : List (K × V)) (d : K × V) → ComesAfter k n es → n < length es → R k (get_or es n d).0 ≡ Greater → ComesAfter k (suc n) es
  after_next k n [] d h lt e = absurd (omega arith)
  after_next k zero (x ∷ es) d h lt e = (e, tt)
  after_next k (suc n) (x ∷ es) d h lt e = (h.0, after_next k n es d h.1 (omega arith) e)

  -- a pair of k goes before the first pair that k comes before
  pub puts_before : (k : K) (v : V) (n : ℕ) (es : List (K × V)) (d : K × V) → ComesAfter k n es → n < length es → R k (get_or es n d).0 ≡ Less → put R k v es ≡ insert es n (k, v)
  puts_before k v n [] d h lt e = absurd (omega arith)
  puts_before k v zero (x ∷ es) d h lt e = ap (λ r. by_order r ((k, v) ∷ x ∷ es) ((x.0, v) ∷ es) (x ∷ put R k v es)) e
  puts_before k v (suc n) (x ∷ es) d h lt e = ap (λ r. by_order r ((k, v) ∷ x ∷ es) ((x.0, v) ∷ es) (x ∷ put R k v es)) h.0 ∙ ap (λ xs. x ∷ xs) (puts_before k v n es d h.1 (omega arith) e)

  -- or to the end
  pub puts_last : (k : K) (v : V) (n : ℕ) (es : List (K × V)) → ComesAfter k n es → n ≡ length es → put R k v es ≡ insert es n (k, v)
  puts_last k v zero [] h e = refl
  puts_last k v zero (x ∷ es) h e = absurd (omega (arith, e))
  puts_last k v (suc n) [] h e = absurd h
  puts_last k v (suc n) (x ∷ es) h e = ap (λ r. by_order r ((k, v) ∷ x ∷ es) ((x.0, v) ∷ es) (x ∷ put R k v es)) h.0 ∙ ap (λ xs. x ∷ xs) (puts_last k v n es h.1 (omega (arith, e)))

  pub absent_last : (k : K) (n : ℕ) (es : List (K × V)) → ComesAfter k n es → n ≡ length es → find R k es ≡ None
  absent_last k zero [] h e = refl
  absent_last k zero (x ∷ es) h e = absurd (omega (arith, e))
  absent_last k (suc n) [] h e = absurd h
  absent_last k (suc n) (x ∷ es) h e = ap (λ r. cond (is_eq r) (Some x.1) (find R k es)) h.0 ∙ absent_last k n es h.1 (omega (arith, e))

  value_after : (k : K) (n : ℕ) (es : List (K × V)) (d : K × V) → ComesAfter k n es → n < length es → R k (get_or es n d).0 ≡ Equal → find R k es ≡ Some (get_or es n d).1
  value_after k n [] d h lt e = absurd (omega arith)
  value_after k zero (x ∷ es) d h lt e = ap (λ r. cond (is_eq r) (Some x.1) (find R k es)) e
  value_after k (suc n) (x ∷ es) d h lt e = ap (λ r. cond (is_eq r) (Some x.1) (find R k es)) h.0 ∙ value_after k n es d h.1 (omega arith) e

module _ {K V : Type 0} (R : K → K → Ordering) (total : IsTotalOrder R) where
  misses_above : (k x : K) (es : List (K × V)) → R k x ≡ Less → T (below_all R x es) → find R k es ≡ None
  misses_above k x [] e h = refl
  misses_above k x (y ∷ es) e h =
      ap (λ r. cond (is_eq r) (Some y.1) (find R k es)) (total.trans k x y.0 e (less_of (R x y.0) (left_of (is_lt (R x y.0)) (below_all R x es) h)))
      ∙ misses_above k x es e (right_of (is_lt (R x y.0)) (below_all R x es) h)

  pub absent_before : (k : K) (n : ℕ) (es : List (K × V)) (d : K × V) → T (is_sorted R es) → ComesAfter R k n es → n < length es → R k (get_or es n d).0 ≡ Less → find R k es ≡ None
  absent_before k n [] d sorted h lt e = absurd (omega arith)
  absent_before k zero (x ∷ es) d sorted h lt e = ap (λ r. cond (is_eq r) (Some x.1) (find R k es)) e ∙ misses_above k x.0 es e (left_of (below_all R x.0 es) (is_sorted R es) sorted)
  absent_before k (suc n) (x ∷ es) d sorted h lt e = ap (λ r. cond (is_eq r) (Some x.1) (find R k es)) h.0 ∙ absent_before k n es d (right_of (below_all R x.0 es) (is_sorted R es) sorted) h.1 (omega arith) e

  module _ (path : K → ℕ) (exact : (x y : K) → R x y ≡ Equal → x ≡ y) where
    -- a put of a key that stands at a place writes there
    put_there : (k : K) (v : V) (es : List (K × V)) (i : ℕ) (d : K × V) → T (is_sorted R es) → i < length es → k ≡ (get_or es i d).0 → put R k v es ≡ set es i (k, v)
    put_there k v [] i d sorted lt e = absurd (omega arith)
    put_there k v (x ∷ es) zero d sorted lt e =
        ap (λ r. by_order r ((k, v) ∷ x ∷ es) ((x.0, v) ∷ es) (x ∷ put R k v es)) (ap (λ y. R y x.0) e ∙ tied_itself total x.0) ∙ ap (λ y. (y, v) ∷ es) (sym e)
    put_there k v (x ∷ es) (suc i) d sorted lt e =
        let above : T (is_lt (R x.0 k)) = subst (λ y. T (is_lt (R x.0 y))) (sym e) (below_at R path total exact x.0 es i d (omega arith) (left_of (below_all R x.0 es) (is_sorted R es) sorted)) in
        ap (λ r. by_order r ((k, v) ∷ x ∷ es) ((x.0, v) ∷ es) (x ∷ put R k v es)) (total.antisymm k x.0 ∙ ap ordering_reverse (less_of (R x.0 k) above))
        ∙ ap (λ xs. x ∷ xs) (put_there k v es i d (right_of (below_all R x.0 es) (is_sorted R es) sorted) (omega arith) e)

    pub stands_at : (k : K) (n : ℕ) (es : List (K × V)) (x : K × V) → ComesAfter R k n es → n < length es → R k (get_or es n x).0 ≡ Equal → IsAt R k n es
    stands_at k n es x h lt e = record {
      within = lt;
      key = λ d. exact k _ e ∙ ap (λ p. p.0) (get_or_default es n x d lt);
      value = λ d. value_after R k n es x h lt e ∙ ap (λ p. Some p.1) (get_or_default es n x d lt);
    }

    pub writes_there : (level stamp before : ℕ) (k : K) (v : V) (es : List (K × V)) (i : ℕ) → IsTrie R path level (bucket before es) → IsAt R k i es → Writes R path level stamp k (Some v) (bucket before es) (bucket stamp (set es i (k, v)))
    writes_there level stamp before k v es i trie at =
        let words = word_of_found R path total exact k trie.2.0 es trie.2.1 (ap is_some (at.value (k, v))) in
        subst (λ xs. Writes R path level stamp k (Some v) (bucket before es) (bucket stamp xs)) (put_there k v es i (k, v) trie.3 at.within (at.key (k, v))) (puts_in_word R path total exact k v level stamp before es trie words)

    -- a put into the pair at a place, in a leaf
    pub puts_leaf : (level stamp : ℕ) (k : K) (v : V) (holds : Option V → Bool) (old : Tree K V) (before after : ℕ) (x y : K × V) (previous : Option V) (written : Bool) →
        bucket before (x ∷ []) ≡ old → R k x.0 ≡ Equal → IsTrie R path level old →
        ((level : ℕ) (es : List (K × V)) (i : ℕ) → IsAt R k i es → get_or es i x ≡ x → IsTrie R path level (bucket before es) → PutsIn R path level stamp k v holds (bucket before es) previous written (bucket after (set es i y))) →
        PutsIn R path level stamp k v holds old previous written (bucket after (y ∷ []))
    puts_leaf level stamp k v holds old before after x y previous written opened tie trie h =
        puts_equal R path level stamp k v holds (bucket before (x ∷ [])) old (bucket after (y ∷ [])) (bucket after (y ∷ [])) previous written opened refl
        (h level (x ∷ []) 0 (stands_at k 0 (x ∷ []) x tt (omega arith) tie) refl (subst (IsTrie R path level) (sym opened) trie))
