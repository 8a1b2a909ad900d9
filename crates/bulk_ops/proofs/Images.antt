-- The images of the pairs of a union.
use Rattle.std.proofs.Common.{◌≡◌, ◌≢◌, ◌≤◌, ◌<◌, ℕ, zero, suc, T, List, [], ◌∷◌, length, get_or, refl, sym, ap, subst, ◌∙◌, ◌⊎◌, inl, inr, arith}
use Rattle.std.specs.Prelude.{Contains, AllPairs, remove}
use Rattle.std.proofs.lemmas.List.{get_or_default}
use Rattle.std.proofs.lemmas.List.Edits.{length-remove}
use Rattle.std.proofs.lemmas.Grind.{in_remove}
use Rattle.std.specs.declared.cmp.Ordering.{Ordering}
use Rattle.std.specs.declared.cmp.Ordering.TheVariants.{Less, Equal, Greater}
use Rattle.std.specs.Ordering.{is_lt}
use Rattle.std.specs.Cmp.{IsTotalOrder, tied_itself}
use Rattle.std.specs.FinMap.{is_sorted}
use Rattle.std.specs.FinMap.Entries.{by_order, below_all}
use Rattle.versions.specs.Map.{Map, IsAntisymmetric, IsMap, with_pair, union}
use Rattle.combiner.specs.Unions.{AreApart}
use Rattle.bulk_work.specs.Answers.{IsImage, image}
use Rattle.bulk_work.proofs.Unions.{left_of, right_of, less_of, truth_of}
use Rattle.bulk_work.proofs.Made.{in_left, in_right}

module _ {A : Type 0} where
  pub first : (x : A) (xs : List A) → Contains (x ∷ xs) x
  first x xs = (0, omega arith, refl)

  pub later : (x y : A) (xs : List A) → Contains xs y → Contains (x ∷ xs) y
  later x y xs (k, lt, e) = (suc k, omega arith, e)

  pub which : (x y : A) (xs : List A) → Contains (x ∷ xs) y → (x ≡ y) ⊎ Contains xs y
  which x y xs (zero, lt, e) = inl e
  which x y xs (suc k, lt, e) = inr (k, omega arith, e)

-- elements of which no two have one key are no more than the elements that they have their keys from
module _ {A B C : Type 0} (key : A → C) (g : B → C) where
  pub few : (xs : List A) (ys : List B) → AllPairs (λ x y. key x ≢ key y) xs → ((x : A) → Contains xs x → (y : B) × Contains ys y × (g y ≡ key x)) → length xs ≤ length ys
  few [] ys once from = omega arith
  few (x ∷ xs) ys once from =
      let w = from x (first x xs) in
      let k = w.1.0 in
      let others : (z : A) → Contains xs z → (y : B) × Contains (remove ys k) y × (g y ≡ key z) = λ z c.
      let v = from z (later x z xs c) in
      let apart : v.1.0 ≢ k = λ same.
      let one : w.0 ≡ v.0 = sym w.1.2 ∙ ap (λ j. get_or ys j w.0) (sym same) ∙ get_or_default ys v.1.0 w.0 v.0 v.1.1 ∙ v.1.2 in
      once 0 (suc c.0) z (omega arith) (omega (arith, c.1)) (sym w.2 ∙ ap g one ∙ v.2 ∙ ap key (sym c.2))
      in (v.0, (in_remove ys k v.1.0 v.0 w.1.1 v.1.1 (sym v.1.2) apart).1, v.2)
      in
      omega (arith, length-remove ys k w.1.1, few xs (remove ys k) (λ i j d lt l. once (suc i) (suc j) d (omega arith) (omega arith)) others)

-- a map has a key
abbrev pub HasKey : {K V : Type 0} → Map K V → K → Type 0
HasKey {K} {V} m k = (v : V) × Contains m (k, v)

pub more_keys : {K V : Type 0} (x : K × V) (m : Map K V) (k : K) → HasKey m k → HasKey (x ∷ m) k
more_keys x m k h = (h.0, later x (k, h.0) m h.1)

not_equal : Less ≡ Equal → ⊥
not_equal e = subst (λ o. T (is_lt o)) e tt

module _ {K V : Type 0} (R : K → K → Ordering) (o : IsTotalOrder R) where
  below_at : (k : K) (m : Map K V) (j : ℕ) (d : K × V) → T (below_all R k m) → j < length m → R k (get_or m j d).0 ≡ Less
  below_at k [] j d h lt = absurd (omega arith)
  below_at k (x ∷ m) zero d h lt = less_of _ (left_of _ _ h)
  below_at k (x ∷ m) (suc j) d h lt = below_at k m j d (right_of _ _ h) (omega arith)

  -- keys that rise strictly stand once
  pub once_of_sorted : (m : Map K V) → T (is_sorted R m) → AllPairs (λ x y. x.0 ≢ y.0) m
  once_of_sorted [] h i j d lt l = absurd (omega arith)
  once_of_sorted (x ∷ m) h i zero d lt l = absurd (omega arith)
  once_of_sorted (x ∷ m) h zero (suc j) d lt l =
      λ same. not_equal (sym (below_at x.0 m j d (left_of _ _ h) (omega arith)) ∙ ap (R x.0) (sym same) ∙ tied_itself o x.0)
  once_of_sorted (x ∷ m) h (suc i) (suc j) d lt l = once_of_sorted m (right_of _ _ h) i j d (omega arith) (omega arith)

  -- a map has no more images than pairs
  pub images_le : (f : K → V → K × V) (m n : Map K V) → IsImage R f m n → length n ≤ length m
  images_le f m n x =
      few (λ y. y.0) (λ y. (image f y).0) n m (once_of_sorted n (truth_of _ x.is_map)) (λ y c. let w = x.from y c in (w.0, w.1, ap (λ z. z.0) w.2))

module _ {K V : Type 0} (R : K → K → Ordering) (exact : IsAntisymmetric R) where
  there_step : (c : Ordering) (k : K) (v : V) (x : K × V) (r : Map K V) → R k x.0 ≡ c → Contains (with_pair R r k v) (k, v)
      → Contains (by_order c ((k, v) ∷ x ∷ r) ((x.0, v) ∷ r) (x ∷ with_pair R r k v)) (k, v)
  there_step Less k v x r is h = first (k, v) (x ∷ r)
  there_step Equal k v x r is h = (0, omega arith, λ i. (sym (exact k x.0 is) i, v))
  there_step Greater k v x r is h = later x (k, v) (with_pair R r k v) h

  -- a pair that is put is there
  pub put_there : (k : K) (v : V) (m : Map K V) → Contains (with_pair R m k v) (k, v)
  put_there k v [] = first (k, v) []
  put_there k v (x ∷ m) = there_step (R k x.0) k v x m refl (put_there k v m)

  from_step : (c : Ordering) (k : K) (v : V) (x : K × V) (r : Map K V) (y : K × V) → R k x.0 ≡ c → (Contains (with_pair R r k v) y → ((k, v) ≡ y) ⊎ Contains r y)
      → Contains (by_order c ((k, v) ∷ x ∷ r) ((x.0, v) ∷ r) (x ∷ with_pair R r k v)) y → ((k, v) ≡ y) ⊎ Contains (x ∷ r) y
  from_step Less k v x r y is rest c = which (k, v) y (x ∷ r) c
  from_step Equal k v x r y is rest c =
      elim (which (x.0, v) y r c) as (λ u. ((k, v) ≡ y) ⊎ Contains (x ∷ r) y) [
        | inl e ↦ inl ((λ i. (exact k x.0 is i, v)) ∙ e)
        | inr d ↦ inr (later x y r d)
      ]
  from_step Greater k v x r y is rest c =
      elim (which x y (with_pair R r k v) c) as (λ u. ((k, v) ≡ y) ⊎ Contains (x ∷ r) y) [
        | inl e ↦ inr (0, omega arith, e)
        | inr d ↦ elim (rest d) as (λ u. ((k, v) ≡ y) ⊎ Contains (x ∷ r) y) [ inl e ↦ inl e | inr b ↦ inr (later x y r b) ]
      ]

  -- a pair of a map with one pair more is that pair or was there
  pub put_from : (k : K) (v : V) (m : Map K V) (y : K × V) → Contains (with_pair R m k v) y → ((k, v) ≡ y) ⊎ Contains m y
  put_from k v [] y c = which (k, v) y [] c
  put_from k v (x ∷ m) y c = from_step (R k x.0) k v x m y refl (put_from k v m y) c

  key_step : (c : Ordering) (k : K) (v : V) (x : K × V) (r : Map K V) (y : K × V) → (Contains r y → HasKey (with_pair R r k v) y.0) → Contains (x ∷ r) y
      → HasKey (by_order c ((k, v) ∷ x ∷ r) ((x.0, v) ∷ r) (x ∷ with_pair R r k v)) y.0
  key_step Less k v x r y rest c = (y.1, later (k, v) y (x ∷ r) c)
  key_step Equal k v x r y rest c =
      elim (which x y r c) as (λ u. HasKey ((x.0, v) ∷ r) y.0) [
        | inl e ↦ (v, (0, omega arith, λ i. ((e i).0, v)))
        | inr d ↦ (y.1, later (x.0, v) y r d)
      ]
  key_step Greater k v x r y rest c =
      elim (which x y r c) as (λ u. HasKey (x ∷ with_pair R r k v) y.0) [
        | inl e ↦ (y.1, (0, omega arith, e))
        | inr d ↦ more_keys x (with_pair R r k v) y.0 (rest d)
      ]

  -- a key that was there is there still
  pub put_keys : (k : K) (v : V) (m : Map K V) (y : K × V) → Contains m y → HasKey (with_pair R m k v) y.0
  put_keys k v [] y c = absurd (omega (arith, c.1))
  put_keys k v (x ∷ m) y c = key_step (R k x.0) k v x m y (put_keys k v m y) c

  -- a pair of a union is of one of both maps, whatever keys they share
  pub union_from : (a b : Map K V) (y : K × V) → Contains (union R a b) y → Contains a y ⊎ Contains b y
  union_from [] b y c = inr c
  union_from (x ∷ a) b y c =
      elim (put_from x.0 x.1 (union R a b) y c) as (λ u. Contains (x ∷ a) y ⊎ Contains b y) [
        | inl e ↦ inl (0, omega arith, e)
        | inr d ↦ elim (union_from a b y d) as (λ u. Contains (x ∷ a) y ⊎ Contains b y) [ inl l ↦ inl (later x y a l) | inr r ↦ inr r ]
      ]

  -- each key of both maps is in the union
  pub left_keys : (a b : Map K V) (y : K × V) → Contains a y → HasKey (union R a b) y.0
  left_keys [] b y c = absurd (omega (arith, c.1))
  left_keys (x ∷ a) b y c =
      elim (which x y a c) as (λ u. HasKey (union R (x ∷ a) b) y.0) [
        | inl e ↦ subst (λ z. HasKey (union R (x ∷ a) b) z.0) e (x.1, put_there x.0 x.1 (union R a b))
        | inr d ↦ let h = left_keys a b y d in put_keys x.0 x.1 (union R a b) (y.0, h.0) h.1
      ]

  pub right_keys : (a b : Map K V) (y : K × V) → Contains b y → HasKey (union R a b) y.0
  right_keys [] b y c = (y.1, c)
  right_keys (x ∷ a) b y c = let h = right_keys a b y c in put_keys x.0 x.1 (union R a b) (y.0, h.0) h.1

  module _ (o : IsTotalOrder R) (f : K → V → K × V) where
    -- the maps of the images of two maps that are apart, put together, are one of their union, whatever keys the images share
    pub image_union : (m n a b : Map K V) → AreApart R m n → IsMap R (union R a b) → IsImage R f m a → IsImage R f n b → IsImage R f (union R m n) (union R a b)
    image_union m n a b apart sorted x y = record {
      is_map = sorted;
      from = λ z c. elim (union_from a b z c) as (λ u. (w : K × V) × Contains (union R m n) w × (image f w ≡ z)) [
        | inl l ↦ let w = x.from z l in (w.0, in_left R o m n w.0 (truth_of _ apart.left) apart.apart w.1, w.2)
        | inr r ↦ let w = y.from z r in (w.0, in_right R o m n w.0 (truth_of _ apart.left) apart.apart w.1, w.2)
      ];
      keys = λ z c. elim (union_from m n z c) as (λ u. HasKey (union R a b) (image f z).0) [
        | inl l ↦ let w = x.keys z l in left_keys a b ((image f z).0, w.0) w.1
        | inr r ↦ let w = y.keys z r in right_keys a b ((image f z).0, w.0) w.1
      ];
    }

-- no pairs have no images
pub image_none : {K V : Type 0} (R : K → K → Ordering) (f : K → V → K × V) → IsImage R f [] []
image_none R f = record {
  is_map = refl;
  from = λ z c. absurd (omega (arith, c.1));
  keys = λ z c. absurd (omega (arith, c.1));
}

none_among : {A : Type 0} (y : A) → Contains [] y → ⊥
none_among y c = omega (arith, c.1)

-- one pair has one image
pub image_one : {K V : Type 0} (R : K → K → Ordering) (f : K → V → K × V) (k : K) (v : V) (r : K × V) → r ≡ f k v → IsImage R f ((k, v) ∷ []) (r ∷ [])
image_one R f k v r is = record {
  is_map = refl;
  from = λ z c. ((k, v), first (k, v) [], elim (which r z [] c) as (λ u. f k v ≡ z) [ inl e ↦ sym is ∙ e | inr d ↦ absurd (none_among z d) ]);
  keys = λ z c. elim (which (k, v) z [] c) as (λ u. HasKey (r ∷ []) (image f z).0) [
    | inl e ↦ (r.1, (0, omega arith, λ i. (((is ∙ ap (image f) e) i).0, r.1)))
    | inr d ↦ absurd (none_among z d)
  ];
}
