-- The items of a list of which something came, and those that are left.
use Rattle.std.specs.Prelude.{◌≡◌, ◌⊎◌, ◌+◌, ℕ, List, [], ◌∷◌}

-- each item of a list, whose first has the place n, is either among those that are done, with its place and with what came of it, which stands to it as R says, or among those that are left; both are in the order of the list
abbrev pub IsParted : {A B : Type 0} → (A → B → Type 0) → ℕ → List A → List (ℕ × B) → List A → Type 0
IsParted R n [] done left = (done ≡ []) × (left ≡ [])
IsParted {A} {B} R n (x ∷ xs) done left =
    ((b : B) × (more : List (ℕ × B)) × (done ≡ (n, b) ∷ more) × R x b × IsParted R (n + 1) xs more left) ⊎ ((more : List A) × (left ≡ x ∷ more) × IsParted R (n + 1) xs done more)
