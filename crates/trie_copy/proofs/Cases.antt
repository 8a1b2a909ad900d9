-- What holds in each case.
use Rattle.std.proofs.Common.{not, true, false, OnErr, Result, Ok, Err, ◌≡◌, ℕ, zero, suc, ◌≤◌, Bool, sym, List, [], ◌∷◌, length, map, refl, ap, arith}
use Rattle.std.specs.List.{insert}

pub map_insert : {A B : Type 0} (f : A → B) (xs : List A) (i : ℕ) (x : A) → i ≤ length xs → map f (insert xs i x) ≡ insert (map f xs) i (f x)
map_insert f [] zero x le = refl
map_insert f [] (suc i) x le = absurd (omega arith)
map_insert f (y ∷ ys) zero x le = refl
map_insert f (y ∷ ys) (suc i) x le = ap (λ zs. f y ∷ zs) (map_insert f ys i x (omega arith))

-- what holds in any case holds at an error
pub at_err : {A E P : Type 0} (r : Result A E) → P → OnErr r P
at_err (Ok a) p = tt
at_err (Err e) p = p

pub when_not : (b : Bool) → not b ≡ true → b ≡ false
when_not true e = sym e
when_not false e = refl

pub when_not_not : (b : Bool) → not b ≡ false → b ≡ true
when_not_not true e = refl
when_not_not false e = sym e

-- what holds whether a test is true or false
pub either : {P : Type 0} (b : Bool) → (b ≡ true → P) → (b ≡ false → P) → P
either true first second = first refl
either false first second = second refl
