-- Where a score has its place in a list that falls, and the list with a pair there.
use Rattle.std.proofs.Common.{◌≡◌, ◌≢◌, ℕ, zero, suc, ◌+◌, ◌-◌, ◌≤◌, ◌<◌, Bool, true, false, cond, List, [], ◌∷◌, ◌++◌, length, take, drop, get_or, T, refl, sym, ap, subst, ◌∙◌, arith}
use Rattle.std.proofs.lemmas.List.{append-nil, append_assoc}
use Rattle.std.specs.Cmp.{IsTotalOrder}
use Rattle.std.specs.List.{AllByRecursion, insert}
use Rattle.std.specs.Ordering.{is_lt}
use Rattle.std.specs.declared.cmp.Ordering.{Ordering}
use Rattle.std.specs.declared.cmp.Ordering.TheVariants.{Less, Equal, Greater}
use Rattle.top_pairs.specs.Ranks.{AtLeast, Falls, Listed}
use Rattle.top_pairs.specs.Merges.{Below, highest}
use Rattle.top_pairs.proofs.Orders.{at_least, equal_not_less, greater_not_less, lower}
use Rattle.top_pairs.proofs.Lists.{all_in}

pub less_by : (r : Ordering) → is_lt r ≡ true → r ≡ Less
less_by Less e = refl
less_by Equal e = absurd (subst T (sym e) tt)
less_by Greater e = absurd (subst T (sym e) tt)

pub not_less_by : (r : Ordering) → is_lt r ≡ false → r ≢ Less
not_less_by Less e = absurd (subst T e tt)
not_less_by Equal e = equal_not_less
not_less_by Greater e = greater_not_less

pub is_lt_of : (r : Ordering) → r ≡ Less → is_lt r ≡ true
is_lt_of r e = ap is_lt e

pub is_not_lt_of : (r : Ordering) → r ≢ Less → is_lt r ≡ false
is_not_lt_of Less e = absurd (e refl)
is_not_lt_of Equal e = refl
is_not_lt_of Greater e = refl

pub cond_true : {A : Type 0} (b : Bool) (x y : A) → b ≡ true → cond b x y ≡ x
cond_true true x y e = refl
cond_true false x y e = absurd (subst T (sym e) tt)

pub cond_false : {A : Type 0} (b : Bool) (x y : A) → b ≡ false → cond b x y ≡ y
cond_false true x y e = absurd (subst T e tt)
cond_false false x y e = refl

module _ {K V S : Type 0} (R : S → S → Ordering) where
  module _ (o : IsTotalOrder R) where
    -- from a pair that scores lower on, all do
    pub below_from : (s : S) (i : ℕ) (xs : List (Listed K V S)) (d : Listed K V S) → i < length xs → R (get_or xs i d).score s ≡ Less → Falls R xs → AllByRecursion (Below R s) (drop i xs)
    below_from s i [] d lt less falls = absurd (omega arith)
    below_from s zero (x ∷ xs) d lt less falls =
        (less, all_in (λ y. AtLeast R y.score x) (Below R s) (λ y not. lower R o x.score y.score s not less) xs falls.0)
    below_from s (suc i) (x ∷ xs) d lt less falls = below_from s i xs d (omega arith) less falls.1

    -- the pair at an index scores no higher than the first
    first_most : (i : ℕ) (x : Listed K V S) (xs : List (Listed K V S)) (d : Listed K V S) → i < length xs → AllByRecursion (λ y. AtLeast R y.score x) xs → AtLeast R (get_or xs i d).score x
    first_most i x [] d lt all = absurd (omega arith)
    first_most zero x (y ∷ ys) d lt all = all.0
    first_most (suc i) x (y ∷ ys) d lt all = first_most i x ys d (omega arith) all.1

    -- up to a pair that does not score lower, none does
    pub at_least_up_to : (s : S) (i : ℕ) (xs : List (Listed K V S)) (d : Listed K V S) → i < length xs → R (get_or xs i d).score s ≢ Less → Falls R xs → AllByRecursion (AtLeast R s) (take (suc i) xs)
    at_least_up_to s i [] d lt not falls = absurd (omega arith)
    at_least_up_to s zero (x ∷ xs) d lt not falls = (not, tt)
    at_least_up_to s (suc i) (x ∷ xs) d lt not falls =
        (at_least R o x.score (get_or xs i d).score s (first_most i x xs d (omega arith) falls.0) not, at_least_up_to s i xs d (omega arith) not falls.1)

  pub none_left : (n : ℕ) → highest {K = K} {V = V} R n [] [] ≡ []
  none_left zero = refl
  none_left (suc n) = refl

  -- the highest of one list are its first ones
  first_of : (n : ℕ) (xs : List (Listed K V S)) → highest R n xs [] ≡ take n xs
  first_of zero xs = refl
  first_of (suc n) [] = refl
  first_of (suc n) (x ∷ xs) = ap (λ (l : List (Listed K V S)). x ∷ l) (first_of n xs)

  -- with a pair at its place
  pub placed : (n p : ℕ) (xs : List (Listed K V S)) (x : Listed K V S) → p ≤ length xs → AllByRecursion (AtLeast R x.score) (take p xs) → AllByRecursion (Below R x.score) (drop p xs) → highest R n xs (x ∷ []) ≡ take n (insert xs p x)
  placed zero p xs x le before behind = refl
  placed (suc n) zero [] x le before behind = ap (λ (l : List (Listed K V S)). x ∷ l) (first_of n [])
  placed (suc n) zero (a ∷ xs) x le before behind =
      cond_true (is_lt (R a.score x.score)) _ _ (is_lt_of _ behind.0) ∙ ap (λ (l : List (Listed K V S)). x ∷ l) (first_of n (a ∷ xs))
  placed (suc n) (suc p) [] x le before behind = absurd (omega arith)
  placed (suc n) (suc p) (a ∷ xs) x le before behind =
      cond_false (is_lt (R a.score x.score)) _ _ (is_not_lt_of _ before.0) ∙ ap (λ (l : List (Listed K V S)). a ∷ l) (placed n p xs x (omega arith) before.1 behind)

  -- a pair that scores no higher than any of a full list does not get in
  pub not_placed : (n : ℕ) (xs : List (Listed K V S)) (x : Listed K V S) → length xs ≡ n → AllByRecursion (AtLeast R x.score) xs → highest R n xs (x ∷ []) ≡ xs
  not_placed zero [] x e all = refl
  not_placed zero (a ∷ xs) x e all = absurd (omega arith)
  not_placed (suc n) [] x e all = absurd (omega arith)
  not_placed (suc n) (a ∷ xs) x e all =
      cond_false (is_lt (R a.score x.score)) _ _ (is_not_lt_of _ all.0) ∙ ap (λ (l : List (Listed K V S)). a ∷ l) (not_placed n xs x (omega arith) all.1)

  -- the first pair of what is left goes to the end of those so far
  pub one_step : (most i : ℕ) (done xs ys us vs : List (Listed K V S)) (x : Listed K V S) → i < most → ((n : ℕ) → highest R (suc n) xs ys ≡ x ∷ highest R n us vs)
      → (done ++ x ∷ []) ++ highest R (most - (i + 1)) us vs ≡ done ++ highest R (most - i) xs ys
  one_step most i done xs ys us vs x less next =
      let n = most - (i + 1) in
      let e : suc n ≡ most - i = omega (arith, less) in
      append_assoc done (x ∷ []) (highest R n us vs) ∙ ap (λ (l : List (Listed K V S)). done ++ l) (sym (next n) ∙ ap (λ k. highest R k xs ys) e)

  -- nothing is left
  pub at_end : (n : ℕ) (done xs ys : List (Listed K V S)) → xs ≡ [] → ys ≡ [] → done ++ highest R n xs ys ≡ done
  at_end n done xs ys e f =
      ap (λ (l : List (Listed K V S)). done ++ l) (ap (λ (l : List (Listed K V S)). highest R n l ys) e ∙ (ap (λ (l : List (Listed K V S)). highest R n [] l) f ∙ none_left n)) ∙ append-nil done
