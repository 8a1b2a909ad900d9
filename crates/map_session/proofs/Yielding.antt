-- What an iterator has given.
use Rattle.std.proofs.Common.{List, [], ◌∷◌, ◌++◌, Option, Some, refl, sym, subst}
use Rattle.std.specs.Iterator.{Yields}

module _ {A S : Type 0} (gives : S → Option A → S → Type 0) where
  -- one item more
  pub yields_more : (xs : List A) (x : A) (s t u : S) → Yields gives s xs t → gives t (Some x) u → Yields gives s (xs ++ x ∷ []) u
  yields_more [] x s t u same step = (u, subst (λ (r : S). gives r (Some x) u) (sym same) step, refl)
  yields_more (y ∷ xs) x s t u (j, first, more) step = (j, first, yields_more xs x j t u more step)
