-- What strictly rising keys of a list say of its parts.
use Rattle.std.proofs.Common.{◌≡◌, ℕ, zero, suc, ◌<◌, T, Bool, true, false, cond, List, [], ◌∷◌, ◌++◌, length, get_or, Option, Some, None, refl, ap, ◌∙◌, arith}
use Rattle.std.specs.Option.{option_or}
use Rattle.std.specs.declared.cmp.Ordering.{Ordering}
use Rattle.std.specs.declared.cmp.Ordering.TheVariants.{Less, Equal}
use Rattle.std.specs.Ordering.{is_eq, eq_by_cmp}
use Rattle.std.specs.Cmp.{IsTotalOrder}
use Rattle.std.specs.FinMap.{find, is_sorted}
use Rattle.std.specs.FinMap.Entries.{below_all}
use Rattle.bulk_work.proofs.Unions.{and_of, left_of, less_of, right_of}

first_or : {X : Type 0} (t : Bool) (x : X) (a b : Option X) → cond t (Some x) (option_or a b) ≡ option_or (cond t (Some x) a) b
first_or true x a b = refl
first_or false x a b = refl

module _ {K X : Type 0} (R : K → K → Ordering) where
  -- what is found in two lists one behind the other
  pub find-append : (q : K) (xs ys : List (K × X)) → find R q (xs ++ ys) ≡ option_or (find R q xs) (find R q ys)
  find-append q [] ys = refl
  find-append q (x ∷ xs) ys =
      ap (cond (eq_by_cmp R q x.0) (Some x.1)) (find-append q xs ys)
      ∙ first_or (eq_by_cmp R q x.0) x.1 (find R q xs) (find R q ys)

  -- a key below all is below the one at a place
  pub below_at : (k : K) (es : List (K × X)) (i : ℕ) (d : K × X) → T (below_all R k es) → i < length es → R k (get_or es i d).0 ≡ Less
  below_at k [] i d h lt = absurd (omega arith)
  below_at k (x ∷ es) zero d h lt = less_of _ (left_of _ _ h)
  below_at k (x ∷ es) (suc i) d h lt = below_at k es i d (right_of _ _ h) (omega arith)

  -- the key at a place is below the one at a later place
  pub rises : (es : List (K × X)) (i j : ℕ) (d : K × X) → T (is_sorted R es) → i < j → j < length es → R (get_or es i d).0 (get_or es j d).0 ≡ Less
  rises [] i j d h lt within = absurd (omega arith)
  rises (x ∷ es) i zero d h lt within = absurd (omega arith)
  rises (x ∷ es) zero (suc j) d h lt within = below_at x.0 es j d (left_of _ _ h) (omega arith)
  rises (x ∷ es) (suc i) (suc j) d h lt within = rises es i j d (right_of _ _ h) (omega arith) (omega arith)

  -- the end of a rising list rises
  pub end_rises : (done es : List (K × X)) → T (is_sorted R (done ++ es)) → T (is_sorted R es)
  end_rises [] es h = h
  end_rises (x ∷ done) es h = end_rises done es (right_of _ _ h)

  -- the values of a list do not matter to its order
  same_below : (k q : K) (v w : X) (done es : List (K × X)) → T (below_all R q (done ++ (k, v) ∷ es)) → T (below_all R q (done ++ (k, w) ∷ es))
  same_below k q v w [] es h = h
  same_below k q v w (x ∷ done) es h = and_of _ _ (left_of _ _ h) (same_below k q v w done es (right_of _ _ h))

  pub same_rises : (k : K) (v w : X) (done es : List (K × X)) → T (is_sorted R (done ++ (k, v) ∷ es)) → T (is_sorted R (done ++ (k, w) ∷ es))
  same_rises k v w [] es h = h
  same_rises k v w (x ∷ done) es h = and_of _ _ (same_below k x.0 v w done es (left_of _ _ h)) (same_rises k v w done es (right_of _ _ h))

  -- a row that goes behind the same rows in another list
  woven_below : (q : K) (x : K × X) (done es fs : List (K × X)) → T (below_all R q (done ++ x ∷ es)) → T (below_all R q (done ++ fs)) → T (below_all R q (done ++ x ∷ fs))
  woven_below q x [] es fs h k = and_of _ _ (left_of _ _ h) k
  woven_below q x (y ∷ done) es fs h k = and_of _ _ (left_of _ _ h) (woven_below q x done es fs (right_of _ _ h) (right_of _ _ k))

  pub woven : (x : K × X) (done es fs : List (K × X)) → T (is_sorted R (done ++ x ∷ es)) → T (is_sorted R (done ++ fs)) → T (below_all R x.0 fs) → T (is_sorted R (done ++ x ∷ fs))
  woven x [] es fs h k below = and_of _ _ below k
  woven x (y ∷ done) es fs h k below = and_of _ _ (woven_below y.0 x done es fs (left_of _ _ h) (left_of _ _ k)) (woven x done es fs (right_of _ _ h) (right_of _ _ k) below)

  module _ (o : IsTotalOrder R) where
    -- a key that ties with one below all is not found
    pub absent_tied : (q k : K) (es : List (K × X)) → R q k ≡ Equal → T (below_all R k es) → find R q es ≡ None
    absent_tied q k [] e h = refl
    absent_tied q k (x ∷ es) e h =
        ap (λ r. cond (is_eq r) (Some x.1) (find R q es)) (o.congr q k x.0 e ∙ less_of _ (left_of _ _ h)) ∙ absent_tied q k es e (right_of _ _ h)
