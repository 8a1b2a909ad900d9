-- What lists of ends count together.
use Rattle.std.proofs.Common.{◌≡◌, ℕ, zero, suc, ◌+◌, ◌<◌, List, [], ◌∷◌, ◌++◌, refl, ap, ◌∙◌, arith}
use Rattle.std.specs.List.{sum_by, flat_map}
use Rattle.std.proofs.lemmas.List.Sums.{sum_by-cons, sum_by-append}
use Rattle.std.proofs.lemmas.List.Concat.{flat_map-append}
use Rattle.ruled_deques.specs.EndsView.{given}

-- what a joined list weighs
pub sum_by-flat_map : {X T : Type 0} (h : T → ℕ) (f : X → List T) (xs : List X) → sum_by h (flat_map f xs) ≡ sum_by (λ x. sum_by h (f x)) xs
sum_by-flat_map h f [] = refl
sum_by-flat_map h f (x ∷ xs) = omega (arith, sum_by-append h (f x) (flat_map f xs), sum_by-flat_map h f xs, sum_by-cons (λ y. sum_by h (f y)) x xs)

-- what own takes and thefts weigh together
pub taken_weighs : {X T : Type 0} (h : T → ℕ) (own : List T) (f : X → List T) (xs : List X) → sum_by h (own ++ flat_map f xs) ≡ sum_by h own + sum_by (λ x. sum_by h (f x)) xs
taken_weighs h own f xs = omega (arith, sum_by-append h own (flat_map f xs), sum_by-flat_map h f xs)

-- what was taken in the end, with n more through the thieves' ends
pub took_more : {X T : Type 0} (h : T → ℕ) (own now seen : List T) (f : X → List T) (xs ys : List X) (n : ℕ) → now ≡ own → own ++ flat_map f xs ≡ seen → sum_by (λ x. sum_by h (f x)) ys ≡ sum_by (λ x. sum_by h (f x)) xs + n
    → sum_by h (now ++ flat_map f ys) ≡ sum_by h seen + n
took_more h own now seen f xs ys n e is more = omega (arith, taken_weighs h now f ys, taken_weighs h own f xs, ap (sum_by h) e, ap (sum_by h) is, more)

-- one more with nothing
pub flat_map_none : {X T : Type 0} (f : X → List T) (xs : List X) (x : X) → flat_map f xs ≡ [] → f x ≡ [] → flat_map f (xs ++ x ∷ []) ≡ []
flat_map_none f xs x none nor = flat_map-append f xs (x ∷ []) ∙ (λ k. none k ++ (nor k ++ []))

-- nothing is given at a later place
pub given_later : {T : Type 0} (x : T) (place : ℕ) → 0 < place → [] ≡ given x place
given_later x zero lt = absurd (omega (arith, lt))
given_later x (suc place) lt = refl
