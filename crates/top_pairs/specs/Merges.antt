-- Two lists by score as one.
use Rattle.std.specs.Prelude.{◌≡◌, ℕ, zero, suc, List, [], ◌∷◌, cond}
use Rattle.std.specs.declared.cmp.Ordering.{Ordering}
use Rattle.std.specs.declared.cmp.Ordering.TheVariants.{Less}
use Rattle.std.specs.Ordering.{is_lt}
use Rattle.top_pairs.specs.Ranks.{Listed}

module _ {K V S : Type 0} (R : S → S → Ordering) where
  -- x scores lower than s
  abbrev pub Below : S → Listed K V S → Type 0
  Below s x = R x.score s ≡ Less

  -- the n first of both lists, each in turn the higher one; of two alike that of the first list
  abbrev pub highest : ℕ → List (Listed K V S) → List (Listed K V S) → List (Listed K V S)
  highest zero xs ys = []
  highest (suc n) [] [] = []
  highest (suc n) [] (y ∷ ys) = y ∷ highest n [] ys
  highest (suc n) (x ∷ xs) [] = x ∷ highest n xs []
  highest (suc n) (x ∷ xs) (y ∷ ys) = cond (is_lt (R x.score y.score)) (y ∷ highest n (x ∷ xs) ys) (x ∷ highest n xs (y ∷ ys))
