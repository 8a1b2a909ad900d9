-- What is the same of pairs with new values: all that follows from their keys.
use Rattle.std.proofs.Common.{◌≡◌, ℕ, ◌+◌, ◌<◌, ◌≤◌, Bool, true, false, cond, List, [], ◌∷◌, ◌++◌, length, take, get_or, Option, Some, is_some, refl, sym, ap, subst, ◌∙◌}
use Rattle.std.proofs.lemmas.List.{take_all, take_more}
use Rattle.std.specs.Prelude.{◌&&◌}
use Rattle.std.specs.declared.cmp.Ordering.{Ordering}
use Rattle.std.specs.declared.cmp.Ordering.TheVariants.{Less, Equal, Greater}
use Rattle.std.specs.Cmp.{IsTotalOrder}
use Rattle.std.specs.FinMap.{find, is_sorted}
use Rattle.std.specs.FinMap.Entries.{below_all, by_order}
use Rattle.std.specs.List.{AllZip}
use Rattle.std.specs.Ordering.{eq_by_cmp, is_lt}
use Rattle.trie_shape.specs.Map.{with_pair}
use Rattle.trie_shape.specs.Roots.{listed}
use Rattle.trie_shape.proofs.Listings.{listed_as, put_listed}
use Rattle.trie_values.specs.Values.{AreGiven, Means, with_values}

-- 1. Two lists, place by place.
module _ {A B : Type 0} (P : A → B → Type 0) where
  pushed : (xs : List A) (ys : List B) (x : A) (y : B) → AllZip P xs ys → P x y → AllZip P (xs ++ x ∷ []) (ys ++ y ∷ [])
  pushed [] [] x y h p = (p, tt)
  pushed [] (b ∷ ys) x y h p = absurd h
  pushed (a ∷ xs) [] x y h p = absurd h
  pushed (a ∷ xs) (b ∷ ys) x y h p = (h.0, pushed xs ys x y h.1 p)

  -- one more element
  pub one_more : (xs : List A) (n : ℕ) (d x : A) (ys zs : List B) (y : B) → n < length xs → AllZip P (take n xs) ys → x ≡ get_or xs n d → P x y → zs ≡ ys ++ y ∷ [] → AllZip P (take (n + 1) xs) zs
  one_more xs n d x ys zs y lt h is p grown =
      let more : take (n + 1) xs ≡ take n xs ++ x ∷ [] = take_more xs n d lt ∙ ap (λ e. take n xs ++ e ∷ []) (sym is) in
      subst (AllZip P (take (n + 1) xs)) (sym grown) (subst (λ es. AllZip P es (ys ++ y ∷ [])) (sym more) (pushed (take n xs) ys x y h p))

  -- all elements
  pub no_more : (xs : List A) (n : ℕ) (ys : List B) → length xs ≤ n → AllZip P (take n xs) ys → AllZip P xs ys
  no_more xs n ys most h = subst (λ es. AllZip P es ys) (take_all n xs most) h

  pub appended : (xs : List A) (ys : List B) (as_ : List A) (bs : List B) → AllZip P xs ys → AllZip P as_ bs → AllZip P (xs ++ as_) (ys ++ bs)
  appended [] [] as_ bs h g = g
  appended [] (y ∷ ys) as_ bs h g = absurd h
  appended (x ∷ xs) [] as_ bs h g = absurd h
  appended (x ∷ xs) (y ∷ ys) as_ bs h g = (h.0, appended xs ys as_ bs h.1 g)

is_some_of : {V W : Type 0} (b : Bool) (v : V) (w : W) (o : Option V) (p : Option W) → is_some p ≡ is_some o → is_some (cond b (Some w) p) ≡ is_some (cond b (Some v) o)
is_some_of true v w o p e = refl
is_some_of false v w o p e = e

module _ {K V W : Type 0} (gives : K → V → W → Type 0) where
  -- 2. The new values are those of each meaning.
  pub exact_values : (f : K → V → W) → Means gives f → (es : List (K × V)) (fs : List (K × W)) → AreGiven gives es fs → fs ≡ with_values f es
  exact_values f means [] [] h = refl
  exact_values f means [] (y ∷ fs) h = absurd h
  exact_values f means (x ∷ es) [] h = absurd h
  exact_values f means (x ∷ es) (y ∷ fs) h = λ i. (h.0.0 i, means x.0 x.1 y.1 h.0.1 i) ∷ exact_values f means es fs h.1 i

  module _ (R : K → K → Ordering) where
    -- 3. The same keys are found, in the same order.
    pub find_given : (q : K) (es : List (K × V)) (fs : List (K × W)) → AreGiven gives es fs → is_some (find R q fs) ≡ is_some (find R q es)
    find_given q [] [] h = refl
    find_given q [] (y ∷ fs) h = absurd h
    find_given q (x ∷ es) [] h = absurd h
    find_given q (x ∷ es) (y ∷ fs) h =
        ap (λ k. is_some (cond (eq_by_cmp R q k) (Some y.1) (find R q fs))) h.0.0
        ∙ is_some_of (eq_by_cmp R q x.0) x.1 y.1 (find R q es) (find R q fs) (find_given q es fs h.1)

    below_given : (k : K) (es : List (K × V)) (fs : List (K × W)) → AreGiven gives es fs → below_all R k fs ≡ below_all R k es
    below_given k [] [] h = refl
    below_given k [] (y ∷ fs) h = absurd h
    below_given k (x ∷ es) [] h = absurd h
    below_given k (x ∷ es) (y ∷ fs) h = λ i. is_lt (R k (h.0.0 i)) && below_given k es fs h.1 i

    pub sorted_given : (es : List (K × V)) (fs : List (K × W)) → AreGiven gives es fs → is_sorted R fs ≡ is_sorted R es
    sorted_given [] [] h = refl
    sorted_given [] (y ∷ fs) h = absurd h
    sorted_given (x ∷ es) [] h = absurd h
    sorted_given (x ∷ es) (y ∷ fs) h = (λ i. below_all R (h.0.0 i) fs && sorted_given es fs h.1 i) ∙ ap (λ b. b && is_sorted R es) (below_given x.0 es fs h.1)

    -- 4. The maps of such pairs are such pairs.
    module _ (total : IsTotalOrder R) (exact : (x y : K) → R x y ≡ Equal → x ≡ y) where
      put_given : (k : K) (v : V) (w : W) → gives k v w → (m : List (K × V)) (n : List (K × W)) → AreGiven gives m n → AreGiven gives (with_pair R m k v) (with_pair R n k w)
      put_given k v w g [] [] h = ((refl, g), tt)
      put_given k v w g [] (y ∷ n) h = absurd h
      put_given k v w g (x ∷ m) [] h = absurd h
      put_given k v w g (x ∷ m) (y ∷ n) h =
          subst (λ z. AreGiven gives (with_pair R (x ∷ m) k v) (by_order (R k z) ((k, w) ∷ y ∷ n) ((y.0, w) ∷ n) (y ∷ with_pair R n k w))) (sym h.0.0)
          (elim (R k x.0) as (λ o. R k x.0 ≡ o → AreGiven gives (by_order o ((k, v) ∷ x ∷ m) ((x.0, v) ∷ m) (x ∷ with_pair R m k v)) (by_order o ((k, w) ∷ y ∷ n) ((y.0, w) ∷ n) (y ∷ with_pair R n k w))) [
            | Less ↦ λ e. ((refl, g), h)
            | Equal ↦ λ e. ((h.0.0, subst (λ z. gives z v w) (exact k x.0 e) g), h.1)
            | Greater ↦ λ e. (h.0, put_given k v w g m n h.1)
          ] refl)

      pub listed_given : (es : List (K × V)) (fs : List (K × W)) → AreGiven gives es fs → AreGiven gives (listed R es) (listed R fs)
      listed_given [] [] h =
          subst (λ m. AreGiven gives m (listed R [])) (sym (listed_as R total exact [] [] tt (λ q. refl)))
          (subst (λ n. AreGiven gives [] n) (sym (listed_as R total exact [] [] tt (λ q. refl))) tt)
      listed_given [] (y ∷ fs) h = absurd h
      listed_given (x ∷ es) [] h = absurd h
      listed_given (x ∷ es) (y ∷ fs) h =
          let put = put_given x.0 x.1 y.1 h.0.1 (listed R es) (listed R fs) (listed_given es fs h.1) in
          let old : listed R (x ∷ es) ≡ with_pair R (listed R es) x.0 x.1 = put_listed R total exact es (x ∷ es) x.0 x.1 (λ q. refl) in
          let new : listed R (y ∷ fs) ≡ with_pair R (listed R fs) y.0 y.1 = put_listed R total exact fs (y ∷ fs) y.0 y.1 (λ q. refl) in
          subst (λ m. AreGiven gives m (listed R (y ∷ fs))) (sym old)
          (subst (λ n. AreGiven gives (with_pair R (listed R es) x.0 x.1) n) (sym (new ∙ ap (λ k. with_pair R (listed R fs) k y.1) h.0.0)) put)
