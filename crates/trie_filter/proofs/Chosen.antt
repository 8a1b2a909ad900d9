-- Some pairs of a list, as a test chooses them.
use Rattle.std.proofs.Common.{◌≡◌, ℕ, ◌+◌, ◌<◌, ◌≤◌, inl, inr, Bool, true, false, cond, T, List, [], ◌∷◌, ◌++◌, length, take, get_or, map, Option, Some, None, is_some, refl, sym, ap, ◌∙◌, subst, arith}
use Rattle.std.proofs.lemmas.List.{append-nil, map-append, take_more}
use Rattle.std.specs.Prelude.{filter}
use Rattle.std.specs.declared.cmp.Ordering.{Ordering}
use Rattle.std.specs.declared.cmp.Ordering.TheVariants.{Less, Equal, Greater}
use Rattle.std.specs.Cmp.{IsTotalOrder}
use Rattle.std.specs.FinMap.{find, is_sorted}
use Rattle.std.specs.FinMap.Entries.{below_all, by_order}
use Rattle.std.specs.Ordering.{eq_by_cmp, is_eq, is_lt}
use Rattle.trie_shape.specs.Map.{with_pair}
use Rattle.trie_shape.specs.Roots.{listed}
use Rattle.trie_shape.proofs.InOrder.{both, left_of, right_of}
use Rattle.trie_shape.proofs.Listings.{IsApart, find_listed, listed_as, listed_sorted, put_listed}
use Rattle.trie_filter.specs.Passing.{AreChosen}
use Rattle.trie_values.specs.Values.{Means}

some_later : {V : Type 0} (b : Bool) (v : V) (o : Option V) → is_some o ≡ true → is_some (cond b (Some v) o) ≡ true
some_later true v o e = refl
some_later false v o e = e

some_both : {V : Type 0} (b : Bool) (v : V) (o p : Option V) → (is_some o ≡ true → is_some p ≡ true) → is_some (cond b (Some v) o) ≡ true → is_some (cond b (Some v) p) ≡ true
some_both true v o p f e = refl
some_both false v o p f e = f e

lesser : (o : Ordering) → T (is_lt o) → o ≡ Less
lesser Less h = refl
lesser Equal h = absurd h
lesser Greater h = absurd h

module _ {K V : Type 0} (gives : K → V → Bool → Type 0) where
  -- 1. Lists.
  pub chosen_append : (es fs es2 fs2 : List (K × V)) → AreChosen gives es fs → AreChosen gives es2 fs2 → AreChosen gives (es ++ es2) (fs ++ fs2)
  chosen_append [] fs es2 fs2 h g = subst (λ xs. AreChosen gives es2 (xs ++ fs2)) (sym h) g
  chosen_append (x ∷ es) fs es2 fs2 (inl h) g = inl (h.0, chosen_append es fs es2 fs2 h.1 g)
  chosen_append (x ∷ es) fs es2 fs2 (inr (rest, (is, may, h))) g = inr (rest ++ fs2, (ap (λ xs. xs ++ fs2) is, may, chosen_append es rest es2 fs2 h g))

  -- one pair more, which stays or not
  module _ {P : Type 0} (f : P → K × V) (ps : List P) (n : ℕ) (p : P) (within : n < length ps) (is : p ≡ get_or ps n p) (fs : List (K × V)) (h : AreChosen gives (map f (take n ps)) fs) where
    taken : map f (take (n + 1) ps) ≡ map f (take n ps) ++ f p ∷ []
    taken = ap (map f) (take_more ps n p within ∙ ap (λ x. take n ps ++ x ∷ []) (sym is)) ∙ map-append f (take n ps) (p ∷ [])

    pub chosen_more : gives (f p).0 (f p).1 true → (gs : List (K × V)) → gs ≡ fs ++ f p ∷ [] → AreChosen gives (map f (take (n + 1) ps)) gs
    chosen_more may gs grown =
        subst (λ xs. AreChosen gives xs gs) (sym taken)
        (subst (AreChosen gives (map f (take n ps) ++ f p ∷ [])) (sym grown) (chosen_append (map f (take n ps)) fs (f p ∷ []) (f p ∷ []) h (inr ([], (refl, may, refl)))))

    pub chosen_same : gives (f p).0 (f p).1 false → AreChosen gives (map f (take (n + 1) ps)) fs
    chosen_same may =
        subst (λ xs. AreChosen gives xs fs) (sym taken)
        (subst (AreChosen gives (map f (take n ps) ++ f p ∷ [])) (append-nil fs) (chosen_append (map f (take n ps)) fs (f p ∷ []) [] h (inl (may, refl))))

  -- no more than all
  pub length_chosen : (es fs : List (K × V)) → AreChosen gives es fs → length fs ≤ length es
  length_chosen [] fs h = omega (arith, ap length h)
  length_chosen (x ∷ es) fs (inl h) = omega (arith, length_chosen es fs h.1)
  length_chosen (x ∷ es) fs (inr (rest, (is, may, h))) = omega (arith, ap length is, length_chosen es rest h)

  -- exactly those of each meaning
  pub exact_chosen : (p : K → V → Bool) → Means gives p → (es fs : List (K × V)) → AreChosen gives es fs → fs ≡ filter (λ x. p x.0 x.1) es
  exact_chosen p means [] fs h = h
  exact_chosen p means (x ∷ es) fs (inl h) =
      let later = filter (λ y. p y.0 y.1) es in
      exact_chosen p means es fs h.1 ∙ ap (λ b. cond b (x ∷ later) later) (means x.0 x.1 false h.0)
  exact_chosen p means (x ∷ es) fs (inr (rest, (is, may, h))) =
      let later = filter (λ y. p y.0 y.1) es in
      is ∙ ap (λ xs. x ∷ xs) (exact_chosen p means es rest h) ∙ ap (λ b. cond b (x ∷ later) later) (means x.0 x.1 true may)

  module _ (R : K → K → Ordering) where
    -- 2. What is found among them is found among all, and they are sorted as those are.
    pub found_chosen : (q : K) (es fs : List (K × V)) → AreChosen gives es fs → is_some (find R q fs) ≡ true → is_some (find R q es) ≡ true
    found_chosen q [] fs h found = ap (λ xs. is_some (find R q xs)) (sym h) ∙ found
    found_chosen q (x ∷ es) fs (inl h) found = some_later (eq_by_cmp R q x.0) x.1 (find R q es) (found_chosen q es fs h.1 found)
    found_chosen q (x ∷ es) fs (inr (rest, (is, may, h))) found =
        some_both (eq_by_cmp R q x.0) x.1 (find R q rest) (find R q es) (found_chosen q es rest h) (ap (λ xs. is_some (find R q xs)) (sym is) ∙ found)

    below_chosen : (k : K) (es fs : List (K × V)) → AreChosen gives es fs → T (below_all R k es) → T (below_all R k fs)
    below_chosen k [] fs h below = subst (λ xs. T (below_all R k xs)) (sym h) tt
    below_chosen k (x ∷ es) fs (inl h) below = below_chosen k es fs h.1 (right_of (is_lt (R k x.0)) (below_all R k es) below)
    below_chosen k (x ∷ es) fs (inr (rest, (is, may, h))) below =
        subst (λ xs. T (below_all R k xs)) (sym is)
        (both (is_lt (R k x.0)) (below_all R k rest) (left_of (is_lt (R k x.0)) (below_all R k es) below) (below_chosen k es rest h (right_of (is_lt (R k x.0)) (below_all R k es) below)))

    pub sorted_chosen : (es fs : List (K × V)) → AreChosen gives es fs → T (is_sorted R es) → T (is_sorted R fs)
    sorted_chosen [] fs h sorted = subst (λ xs. T (is_sorted R xs)) (sym h) tt
    sorted_chosen (x ∷ es) fs (inl h) sorted = sorted_chosen es fs h.1 (right_of (below_all R x.0 es) (is_sorted R es) sorted)
    sorted_chosen (x ∷ es) fs (inr (rest, (is, may, h))) sorted =
        subst (λ xs. T (is_sorted R xs)) (sym is)
        (both (below_all R x.0 rest) (is_sorted R rest) (below_chosen x.0 es rest h (left_of (below_all R x.0 es) (is_sorted R es) sorted)) (sorted_chosen es rest h (right_of (below_all R x.0 es) (is_sorted R es) sorted)))

    put_first : (k : K) (v : V) (es : List (K × V)) → T (below_all R k es) → with_pair R es k v ≡ (k, v) ∷ es
    put_first k v [] h = refl
    put_first k v (x ∷ es) h = ap (λ o. by_order o ((k, v) ∷ x ∷ es) ((x.0, v) ∷ es) (x ∷ with_pair R es k v)) (lesser (R k x.0) (left_of (is_lt (R k x.0)) (below_all R k es) h))

    module _ (total : IsTotalOrder R) (exact : (x y : K) → R x y ≡ Equal → x ≡ y) where
      below_less : (k y : K) (es : List (K × V)) → R k y ≡ Less → T (below_all R y es) → T (below_all R k es)
      below_less k y [] e h = tt
      below_less k y (x ∷ es) e h =
          both (is_lt (R k x.0)) (below_all R k es) (subst (λ o. T (is_lt o)) (sym (total.trans k y x.0 e (lesser (R y x.0) (left_of (is_lt (R y x.0)) (below_all R y es) h)))) tt)
          (below_less k y es e (right_of (is_lt (R y x.0)) (below_all R y es) h))

      -- where a key is not found it ties with no first key, and is not found later
      not_tied : {A : Type 0} (o : Ordering) (v : V) (p : Option V) → cond (is_eq o) (Some v) p ≡ None → o ≡ Equal → A
      not_tied Less v p e is = cc
      not_tied Equal v p e is = cc
      not_tied Greater v p e is = cc

      none_later : (b : Bool) (v : V) (p : Option V) → cond b (Some v) p ≡ None → p ≡ None
      none_later true v p e = cc
      none_later false v p e = e

      -- 3. One pair more in both maps, or in the one of which they are chosen.
      put_left_out : (k : K) (v : V) → gives k v false → (m n : List (K × V)) → find R k m ≡ None → AreChosen gives m n → AreChosen gives (with_pair R m k v) n
      put_left_out k v may [] n none h = inl (may, h)
      put_left_out k v may (x ∷ m) n none (inl g) =
          let rest = put_left_out k v may m n (none_later (eq_by_cmp R k x.0) x.1 (find R k m) none) g.1 in
          elim (R k x.0) as (λ o. R k x.0 ≡ o → AreChosen gives (by_order o ((k, v) ∷ x ∷ m) ((x.0, v) ∷ m) (x ∷ with_pair R m k v)) n) [
            | Less ↦ λ e. inl (may, inl g)
            | Equal ↦ λ e. not_tied (R k x.0) x.1 (find R k m) none e
            | Greater ↦ λ e. inl (g.0, rest)
          ] refl
      put_left_out k v may (x ∷ m) n none (inr (ns, (is, stays, g))) =
          let rest = put_left_out k v may m ns (none_later (eq_by_cmp R k x.0) x.1 (find R k m) none) g in
          elim (R k x.0) as (λ o. R k x.0 ≡ o → AreChosen gives (by_order o ((k, v) ∷ x ∷ m) ((x.0, v) ∷ m) (x ∷ with_pair R m k v)) n) [
            | Less ↦ λ e. inl (may, inr (ns, (is, stays, g)))
            | Equal ↦ λ e. not_tied (R k x.0) x.1 (find R k m) none e
            | Greater ↦ λ e. inr (ns, (is, stays, rest))
          ] refl

      -- a key below the first stands in front
      put_in_front : (k : K) (v : V) → gives k v true → (x : K × V) (m n : List (K × V)) → T (is_sorted R (x ∷ m)) → AreChosen gives (x ∷ m) n → R k x.0 ≡ Less → AreChosen gives ((k, v) ∷ x ∷ m) (with_pair R n k v)
      put_in_front k v may x m n sorted h e =
          let below : T (below_all R k (x ∷ m)) = both (is_lt (R k x.0)) (below_all R k m) (subst (λ o. T (is_lt o)) (sym e) tt) (below_less k x.0 m e (left_of (below_all R x.0 m) (is_sorted R m) sorted)) in
          inr (n, (put_first k v n (below_chosen k (x ∷ m) n h below), may, h))

      put_chosen : (k : K) (v : V) → gives k v true → (m n : List (K × V)) → T (is_sorted R m) → find R k m ≡ None → AreChosen gives m n → AreChosen gives (with_pair R m k v) (with_pair R n k v)
      put_chosen k v may [] n sorted none h = subst (λ ns. AreChosen gives ((k, v) ∷ []) (with_pair R ns k v)) (sym h) (inr ([], (refl, may, refl)))
      put_chosen k v may (x ∷ m) n sorted none (inl g) =
          let rest = put_chosen k v may m n (right_of (below_all R x.0 m) (is_sorted R m) sorted) (none_later (eq_by_cmp R k x.0) x.1 (find R k m) none) g.1 in
          elim (R k x.0) as (λ o. R k x.0 ≡ o → AreChosen gives (by_order o ((k, v) ∷ x ∷ m) ((x.0, v) ∷ m) (x ∷ with_pair R m k v)) (with_pair R n k v)) [
            | Less ↦ λ e. put_in_front k v may x m n sorted (inl g) e
            | Equal ↦ λ e. not_tied (R k x.0) x.1 (find R k m) none e
            | Greater ↦ λ e. inl (g.0, rest)
          ] refl
      put_chosen k v may (x ∷ m) n sorted none (inr (ns, (is, stays, g))) =
          let rest = put_chosen k v may m ns (right_of (below_all R x.0 m) (is_sorted R m) sorted) (none_later (eq_by_cmp R k x.0) x.1 (find R k m) none) g in
          elim (R k x.0) as (λ o. R k x.0 ≡ o → AreChosen gives (by_order o ((k, v) ∷ x ∷ m) ((x.0, v) ∷ m) (x ∷ with_pair R m k v)) (with_pair R n k v)) [
            | Less ↦ λ e. put_in_front k v may x m n sorted (inr (ns, (is, stays, g))) e
            | Equal ↦ λ e. not_tied (R k x.0) x.1 (find R k m) none e
            | Greater ↦ λ e.
                let put : with_pair R n k v ≡ x ∷ with_pair R ns k v = ap (λ xs. with_pair R xs k v) is ∙ ap (λ o. by_order o ((k, v) ∷ x ∷ ns) ((x.0, v) ∷ ns) (x ∷ with_pair R ns k v)) e in
                inr (with_pair R ns k v, (put, stays, rest))
          ] refl

      -- 4. Maps of such pairs.
      pub listed_chosen : (es fs : List (K × V)) → IsApart R total es → AreChosen gives es fs → AreChosen gives (listed R es) (listed R fs)
      listed_chosen [] fs apart h =
          let none : listed {V = V} R [] ≡ [] = listed_as R total exact [] [] tt (λ q. refl) in
          subst (λ m. AreChosen gives m (listed R fs)) (sym none) (ap (listed R) h ∙ none)
      listed_chosen (x ∷ es) fs apart (inl g) =
          subst (λ m. AreChosen gives m (listed R fs)) (sym (put_listed R total exact es (x ∷ es) x.0 x.1 (λ q. refl)))
          (put_left_out x.0 x.1 g.0 (listed R es) (listed R fs) (find_listed R total es x.0 ∙ apart.0) (listed_chosen es fs apart.1 g.1))
      listed_chosen (x ∷ es) fs apart (inr (rest, (is, may, g))) =
          let put : listed R fs ≡ with_pair R (listed R rest) x.0 x.1 = ap (listed R) is ∙ put_listed R total exact rest (x ∷ rest) x.0 x.1 (λ q. refl) in
          subst (λ m. AreChosen gives m (listed R fs)) (sym (put_listed R total exact es (x ∷ es) x.0 x.1 (λ q. refl)))
          (subst (λ n. AreChosen gives (with_pair R (listed R es) x.0 x.1) n) (sym put)
          (put_chosen x.0 x.1 may (listed R es) (listed R rest) (listed_sorted R total es) (find_listed R total es x.0 ∙ apart.0) (listed_chosen es rest apart.1 g)))
