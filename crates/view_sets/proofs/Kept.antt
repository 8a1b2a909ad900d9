-- What a test that all pass leaves.
use Rattle.std.proofs.Common.{◌≡◌, true, List, [], ◌∷◌, filter, refl, ap}

-- all are left
pub kept_all : {X : Type 0} (xs : List X) → filter (λ x. true) xs ≡ xs
kept_all [] = refl
kept_all (x ∷ xs) = ap (λ rest. x ∷ rest) (kept_all xs)
