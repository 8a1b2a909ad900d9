-- What counts, tests and folds give for a union of maps that share no key.
use Rattle.std.proofs.Common.{◌≡◌, ℕ, ◌+◌, Bool, true, false, ◌&&◌, ◌||◌, cond, length, T, [], ◌∷◌, ◌++◌, refl, sym, ap, ◌∙◌, arith, List}
use Rattle.std.specs.List.{list_any, list_all}
use Rattle.std.proofs.lemmas.List.{map-append, length-append}
use Rattle.std.specs.declared.cmp.Ordering.{Ordering}
use Rattle.std.specs.Cmp.{IsTotalOrder}
use Rattle.std.specs.FinMap.{is_sorted}
use Rattle.versions.specs.Map.{Map, ShareNoKey, union}
use Rattle.combiner.specs.Monoids.{IsAssociative, IsCommutative, IsNeutral, IsClosed, folded}
use Rattle.bulk_work.specs.Answers.{passes, passing, items_of}
use Rattle.bulk_work.proofs.Unions.{union_value}

or_between : (a p b : Bool) → (a || (p || b)) ≡ (p || (a || b))
or_between true true b = refl
or_between true false b = refl
or_between false p b = refl

and_between : (a p b : Bool) → (a && (p && b)) ≡ (p && (a && b))
and_between true p b = refl
and_between false true b = refl
and_between false false b = refl

or_assoc : (p a b : Bool) → ((p || a) || b) ≡ (p || (a || b))
or_assoc true a b = refl
or_assoc false a b = refl

and_assoc : (p a b : Bool) → ((p && a) && b) ≡ (p && (a && b))
and_assoc true a b = refl
and_assoc false a b = refl

module _ {A : Type 0} (op : A → A → A) (is_item : A → Type 0) (unit : A)
    (assoc : IsAssociative op) (comm : IsCommutative op) (neutral : IsNeutral op is_item unit) (closed : IsClosed op is_item) (unit_is : is_item unit) where
  pub folded_is_item : (xs : List A) → is_item (folded op unit xs)
  folded_is_item [] = unit_is
  folded_is_item (x ∷ xs) = closed x (folded op unit xs)

  fold_between : (xs : List A) (a : A) (ys : List A) → folded op unit (xs ++ a ∷ ys) ≡ op a (folded op unit (xs ++ ys))
  fold_between [] a ys = refl
  fold_between (x ∷ xs) a ys =
      let rest = folded op unit (xs ++ ys) in
      ap (op x) (fold_between xs a ys) ∙ sym (assoc x a rest) ∙ ap (λ b. op b rest) (comm x a) ∙ assoc a x rest

module _ {K V : Type 0} (R : K → K → Ordering) (o : IsTotalOrder R) where
  count_between : (p : K → V → Bool) (a b : Map K V) (x : K × V) → length (passing p (a ++ x ∷ b)) ≡ cond (passes p x) 1 0 + length (passing p (a ++ b))
  count_between p [] b x = elim (passes p x) as (λ t. length (cond t (x ∷ passing p b) (passing p b)) ≡ cond t 1 0 + length (passing p b)) [ true ↦ omega arith | false ↦ omega arith ]
  count_between p (y ∷ a) b x =
      elim (passes p y) as (λ t. length (cond t (y ∷ passing p (a ++ x ∷ b)) (passing p (a ++ x ∷ b))) ≡ cond (passes p x) 1 0 + length (cond t (y ∷ passing p (a ++ b)) (passing p (a ++ b)))) [
        | true ↦ omega (arith, count_between p a b x)
        | false ↦ count_between p a b x
      ]

  count_more : (p : K → V → Bool) (x : K × V) (m : Map K V) (n : ℕ) → length (passing p (x ∷ m)) + n ≡ cond (passes p x) 1 0 + (length (passing p m) + n)
  count_more p x m n = omega (arith, count_between p [] m x)

  -- as many pass in a union as in both maps
  pub count_union : (p : K → V → Bool) (m n : Map K V) → T (is_sorted R m) → ShareNoKey R m n → length (passing p (union R m n)) ≡ length (passing p m) + length (passing p n)
  count_union p m n h apart =
      union_value R o (λ s. length (passing p s)) (λ x c. cond (passes p x) 1 0 + c) (count_between p) (λ a b. a + b) (λ b. omega arith) (count_more p) m n h apart

  any_between : (p : K → V → Bool) (a b : Map K V) (x : K × V) → list_any (passes p) (a ++ x ∷ b) ≡ (passes p x || list_any (passes p) (a ++ b))
  any_between p [] b x = refl
  any_between p (y ∷ a) b x = ap (λ t. passes p y || t) (any_between p a b x) ∙ or_between (passes p y) (passes p x) (list_any (passes p) (a ++ b))

  pub any_union : (p : K → V → Bool) (m n : Map K V) → T (is_sorted R m) → ShareNoKey R m n → list_any (passes p) (union R m n) ≡ (list_any (passes p) m || list_any (passes p) n)
  any_union p m n h apart =
      union_value R o (list_any (passes p)) (λ x t. passes p x || t) (any_between p) (λ a b. a || b) (λ b. refl) (λ x s b. or_assoc (passes p x) (list_any (passes p) s) b) m n h apart

  all_between : (p : K → V → Bool) (a b : Map K V) (x : K × V) → list_all (passes p) (a ++ x ∷ b) ≡ (passes p x && list_all (passes p) (a ++ b))
  all_between p [] b x = refl
  all_between p (y ∷ a) b x = ap (λ t. passes p y && t) (all_between p a b x) ∙ and_between (passes p y) (passes p x) (list_all (passes p) (a ++ b))

  pub all_union : (p : K → V → Bool) (m n : Map K V) → T (is_sorted R m) → ShareNoKey R m n → list_all (passes p) (union R m n) ≡ (list_all (passes p) m && list_all (passes p) n)
  all_union p m n h apart =
      union_value R o (list_all (passes p)) (λ x t. passes p x && t) (all_between p) (λ a b. a && b) (λ b. refl) (λ x s b. and_assoc (passes p x) (list_all (passes p) s) b) m n h apart

  -- as many pairs are in a union as in both maps
  pub length_union : (m n : Map K V) → T (is_sorted R m) → ShareNoKey R m n → length (union R m n) ≡ length m + length n
  length_union m n h apart =
      union_value R o length (λ x c. 1 + c) (λ a b x. omega (arith, length-append a (x ∷ b), length-append a b)) (λ a b. a + b) (λ b. omega arith) (λ x s b. omega arith) m n h apart

  module _ {A : Type 0} (op : A → A → A) (is_item : A → Type 0) (unit : A)
      (assoc : IsAssociative op) (comm : IsCommutative op) (neutral : IsNeutral op is_item unit) (closed : IsClosed op is_item) (unit_is : is_item unit) where
    items_between : (i : K → V → A) (a b : Map K V) (x : K × V) → folded op unit (items_of i (a ++ x ∷ b)) ≡ op (i x.0 x.1) (folded op unit (items_of i (a ++ b)))
    items_between i a b x =
        ap (folded op unit) (map-append (λ (y : K × V). i y.0 y.1) a (x ∷ b))
        ∙ fold_between op is_item unit assoc comm neutral closed unit_is (items_of i a) (i x.0 x.1) (items_of i b)
        ∙ ap (λ s. op (i x.0 x.1) (folded op unit s)) (sym (map-append (λ (y : K × V). i y.0 y.1) a b))

    -- the items of a union are those of both maps
    pub fold_union : (i : K → V → A) (m n : Map K V) → T (is_sorted R m) → ShareNoKey R m n → folded op unit (items_of i (union R m n)) ≡ op (folded op unit (items_of i m)) (folded op unit (items_of i n))
    fold_union i m n h apart =
        union_value R o (λ s. folded op unit (items_of i s)) (λ x a. op (i x.0 x.1) a) (items_between i) op
        (λ s. comm unit (folded op unit (items_of i s)) ∙ neutral _ (folded_is_item op is_item unit assoc comm neutral closed unit_is (items_of i s)))
        (λ x s b. assoc (i x.0 x.1) (folded op unit (items_of i s)) b) m n h apart
