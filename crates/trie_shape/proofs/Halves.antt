-- A key's value among pairs in order, from the pair in the middle.
use Rattle.std.proofs.Common.{◌≡◌, ℕ, map, take, drop, cond, T, refl, List, [], ◌∷◌, ◌++◌, Some, None, sym, ap, subst, ◌∙◌}
use Rattle.std.specs.declared.cmp.Ordering.{Ordering}
use Rattle.std.specs.declared.cmp.Ordering.TheVariants.{Less, Equal, Greater}
use Rattle.std.specs.Ordering.{is_eq, is_lt, ordering_reverse}
use Rattle.std.specs.Cmp.{IsTotalOrder}
use Rattle.std.specs.FinMap.{find, is_sorted}
use Rattle.std.specs.FinMap.Entries.{below_all}
use Rattle.std.proofs.lemmas.List.{take-append-drop, map-append}
use Rattle.trie_shape.proofs.InOrder.{both, left_of, right_of}

is_less : (r : Ordering) → T (is_lt r) → r ≡ Less
is_less Less e = refl
is_less Equal e = absurd e
is_less Greater e = absurd e

module _ {K V : Type 0} (R : K → K → Ordering) where
  below_before : (k : K) (xs ys : List (K × V)) → T (below_all R k (xs ++ ys)) → T (below_all R k xs)
  below_before k [] ys h = tt
  below_before k (x ∷ xs) ys h =
      both (is_lt (R k x.0)) (below_all R k xs) (left_of (is_lt (R k x.0)) (below_all R k (xs ++ ys)) h) (below_before k xs ys (right_of (is_lt (R k x.0)) (below_all R k (xs ++ ys)) h))

  below_behind : (k : K) (xs ys : List (K × V)) → T (below_all R k (xs ++ ys)) → T (below_all R k ys)
  below_behind k [] ys h = h
  below_behind k (x ∷ xs) ys h = below_behind k xs ys (right_of (is_lt (R k x.0)) (below_all R k (xs ++ ys)) h)

  -- the first part of pairs in order, and the rest
  pub sorted_before : (xs ys : List (K × V)) → T (is_sorted R (xs ++ ys)) → T (is_sorted R xs)
  sorted_before [] ys h = tt
  sorted_before (x ∷ xs) ys h =
      both (below_all R x.0 xs) (is_sorted R xs)
      (below_before x.0 xs ys (left_of (below_all R x.0 (xs ++ ys)) (is_sorted R (xs ++ ys)) h))
      (sorted_before xs ys (right_of (below_all R x.0 (xs ++ ys)) (is_sorted R (xs ++ ys)) h))

  pub sorted_behind : (xs ys : List (K × V)) → T (is_sorted R (xs ++ ys)) → T (is_sorted R ys)
  sorted_behind [] ys h = h
  sorted_behind (x ∷ xs) ys h = sorted_behind xs ys (right_of (below_all R x.0 (xs ++ ys)) (is_sorted R (xs ++ ys)) h)

  module _ (total : IsTotalOrder R) where
    below_lesser : (q k : K) (es : List (K × V)) → R q k ≡ Less → T (below_all R k es) → T (below_all R q es)
    below_lesser q k [] less h = tt
    below_lesser q k (e ∷ es) less h =
        both (is_lt (R q e.0)) (below_all R q es)
        (subst (λ r. T (is_lt r)) (sym (total.trans q k e.0 less (is_less (R k e.0) (left_of (is_lt (R k e.0)) (below_all R k es) h)))) tt)
        (below_lesser q k es less (right_of (is_lt (R k e.0)) (below_all R k es) h))

    absent_below : (q : K) (es : List (K × V)) → T (below_all R q es) → find R q es ≡ None
    absent_below q [] h = refl
    absent_below q (e ∷ es) h =
        ap (λ r. cond (is_eq r) (Some e.1) (find R q es)) (is_less (R q e.0) (left_of (is_lt (R q e.0)) (below_all R q es) h))
        ∙ absent_below q es (right_of (is_lt (R q e.0)) (below_all R q es) h)

    -- a key that is less than the middle one stands before it
    pub found_before : (q : K) (e : K × V) (xs ys : List (K × V)) → R q e.0 ≡ Less → T (is_sorted R (xs ++ e ∷ ys)) → find R q (xs ++ e ∷ ys) ≡ find R q xs
    found_before q e [] ys less h =
        absent_below q (e ∷ ys) (both (is_lt (R q e.0)) (below_all R q ys) (subst (λ r. T (is_lt r)) (sym less) tt) (below_lesser q e.0 ys less (left_of (below_all R e.0 ys) (is_sorted R ys) h)))
    found_before q e (x ∷ xs) ys less h =
        ap (λ o. cond (is_eq (R q x.0)) (Some x.1) o) (found_before q e xs ys less (right_of (below_all R x.0 (xs ++ e ∷ ys)) (is_sorted R (xs ++ e ∷ ys)) h))

    -- a key that is not less than the middle one is none of those before it
    not_before : (q : K) (e x : K × V) (xs ys : List (K × V)) → R e.0 q ≡ Less → T (below_all R x.0 (xs ++ e ∷ ys)) → R q x.0 ≡ Greater
    not_before q e x xs ys less h =
        let lesser = is_less (R x.0 e.0) (left_of (is_lt (R x.0 e.0)) (below_all R x.0 ys) (below_behind x.0 xs (e ∷ ys) h)) in
        total.antisymm q x.0 ∙ ap ordering_reverse (total.trans x.0 e.0 q lesser less)

    pub found_behind : (q : K) (e : K × V) (xs ys : List (K × V)) → R q e.0 ≡ Greater → T (is_sorted R (xs ++ e ∷ ys)) → find R q (xs ++ e ∷ ys) ≡ find R q ys
    found_behind q e [] ys greater h = ap (λ r. cond (is_eq r) (Some e.1) (find R q ys)) greater
    found_behind q e (x ∷ xs) ys greater h =
        ap (λ r. cond (is_eq r) (Some x.1) (find R q (xs ++ e ∷ ys)))
        (not_before q e x xs ys (total.antisymm e.0 q ∙ ap ordering_reverse greater) (left_of (below_all R x.0 (xs ++ e ∷ ys)) (is_sorted R (xs ++ e ∷ ys)) h))
        ∙ found_behind q e xs ys greater (right_of (below_all R x.0 (xs ++ e ∷ ys)) (is_sorted R (xs ++ e ∷ ys)) h)

    pub found_there : (q : K) (e : K × V) (xs ys : List (K × V)) → R q e.0 ≡ Equal → T (is_sorted R (xs ++ e ∷ ys)) → find R q (xs ++ e ∷ ys) ≡ Some e.1
    found_there q e [] ys same h = ap (λ r. cond (is_eq r) (Some e.1) (find R q ys)) same
    found_there q e (x ∷ xs) ys same h =
        let lesser = is_less (R x.0 e.0) (left_of (is_lt (R x.0 e.0)) (below_all R x.0 ys) (below_behind x.0 xs (e ∷ ys) (left_of (below_all R x.0 (xs ++ e ∷ ys)) (is_sorted R (xs ++ e ∷ ys)) h))) in
        let greater : R q x.0 ≡ Greater = total.congr q e.0 x.0 same ∙ total.antisymm e.0 x.0 ∙ ap ordering_reverse lesser in
        ap (λ r. cond (is_eq r) (Some x.1) (find R q (xs ++ e ∷ ys))) greater
        ∙ found_there q e xs ys same (right_of (below_all R x.0 (xs ++ e ∷ ys)) (is_sorted R (xs ++ e ∷ ys)) h)

-- pairs that are cut in two, where the second part is not empty
pub cut : {A B : Type 0} (f : A → B) (ps front back behind : List A) (n : ℕ) (p : A) → front ≡ take n ps → back ≡ drop n ps → back ≡ p ∷ behind → map f ps ≡ map f front ++ f p ∷ map f behind
cut f ps front back behind n p first rest split =
    ap (map f) (sym (take-append-drop n ps) ∙ (λ i. sym first i ++ (sym rest ∙ split) i)) ∙ map-append f front (p ∷ behind)
