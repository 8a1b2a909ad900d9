-- Workers by their places.
use Rattle.std.proofs.Common.{◌≡◌, ℕ, suc, ◌+◌, ◌<◌, IfOk, Ok, Err, Result, List, [], ◌∷◌, length, get_or, refl, sym, ap, subst, arith}
use Rattle.std.proofs.lemmas.List.Sums.{sum_by-cons}
use Rattle.std.specs.List.{sum_by}
use Rattle.ruled_deques.proofs.Steps.{rest_at}

pub ifok_map : {T E : Type 0} (r : Result T E) (P Q : T → Type 0) → ((t : T) → P t → Q t) → IfOk r P → IfOk r Q
ifok_map (Ok t) P Q f p = f t p
ifok_map (Err e) P Q f p = p

-- what holds of those that are there, by their places, as a walk of them starts
pub from_start : {T : Type 0} (P : ℕ → T → Type 0) (xs ys : List T) (n : ℕ) → xs ≡ ys → n ≡ 0
    → ((i : ℕ) (d : T) → i < length ys → P i (get_or ys i d))
    → (i : ℕ) (d : T) → i < length xs → P (n + i) (get_or xs i d)
from_start {T} P xs ys n same none h i d lt =
    let at : i ≡ n + i = omega (arith, none) in
    subst (λ k. P k (get_or xs i d)) at (subst (λ zs. (j : ℕ) (e : T) → j < length zs → P j (get_or zs j e)) (sym same) h i d lt)

-- and as the first leaves
pub rest_ok : {T E : Type 0} (P : ℕ → T → Type 0) (xs ys : List (Result T E)) (x : Result T E) (n m : ℕ) → xs ≡ x ∷ ys → m ≡ n + 1
    → ((i : ℕ) (d : Result T E) → i < length xs → IfOk (get_or xs i d) (P (n + i)))
    → (i : ℕ) (d : Result T E) → i < length ys → IfOk (get_or ys i d) (P (m + i))
rest_ok P xs ys x n m e s h = (rest_at (λ k r. IfOk r (P k)) xs ys x n m e s h).1

pub first_ok : {T E : Type 0} (P : ℕ → T → Type 0) (xs ys : List (Result T E)) (x : Result T E) (t : T) (n : ℕ) → xs ≡ x ∷ ys → x ≡ Ok t
    → ((i : ℕ) (d : Result T E) → i < length xs → IfOk (get_or xs i d) (P (n + i)))
    → P n t
first_ok P xs ys x t n e is h = subst (λ r. IfOk r (P n)) is (rest_at (λ k r. IfOk r (P k)) xs ys x n (n + 1) e refl h).0

-- a list with places has a first
pub first_of : {T : Type 0} (xs : List T) (i : ℕ) → i < length xs → T
first_of [] i lt = absurd (omega arith)
first_of (x ∷ xs) i lt = x

-- what stands at the place 0 alone, added up by places
sum_later : {T : Type 0} (f : ℕ → ℕ) (place : T → ℕ) (n : ℕ) (xs : List T) → ((k : ℕ) → f (suc k) ≡ 0) → ((i : ℕ) (d : T) → i < length xs → place (get_or xs i d) ≡ suc n + i) → sum_by (λ x. f (place x)) xs ≡ 0
sum_later f place n [] none h = refl
sum_later f place n (x ∷ xs) none h =
    let here = h 0 x (omega arith) in
    let at : place x ≡ suc n = omega (arith, here) in
    let rest : sum_by (λ x. f (place x)) xs ≡ 0 = sum_later f place (suc n) xs none (λ i d lt. let r = h (suc i) d (omega arith) in omega (arith, r)) in
    omega (arith, ap f at, none n, sum_by-cons (λ x. f (place x)) x xs)

pub sum_first : {T : Type 0} (f : ℕ → ℕ) (place : T → ℕ) (xs : List T) → ((k : ℕ) → f (suc k) ≡ 0) → 0 < length xs → ((i : ℕ) (d : T) → i < length xs → place (get_or xs i d) ≡ i) → sum_by (λ x. f (place x)) xs ≡ f 0
sum_first f place [] none lt h = absurd (omega (arith, lt))
sum_first f place (x ∷ xs) none lt h =
    let at : place x ≡ 0 = h 0 x (omega arith) in
    let rest : sum_by (λ x. f (place x)) xs ≡ 0 = sum_later f place 0 xs none (λ i d lt. let r = h (suc i) d (omega arith) in omega (arith, r)) in
    omega (arith, ap f at, sum_by-cons (λ x. f (place x)) x xs)
