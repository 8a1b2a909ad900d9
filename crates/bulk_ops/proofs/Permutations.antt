-- A fold over any listing is the same.
use Rattle.std.proofs.Common.{◌≡◌, ℕ, zero, suc, ◌<◌, List, [], ◌∷◌, length, get_or, refl, sym, ap, ◌∙◌, arith}
use Rattle.std.proofs.Math.ListN.{set}
use Rattle.std.specs.List.Sorted.{IsPermutation}
use Rattle.std.proofs.lemmas.List.Sorted.{IsPermutation-keeps}
use Rattle.std.proofs.lemmas.List.Edits.{swap_is}
use Rattle.combiner.specs.Monoids.{IsAssociative, IsCommutative, folded}

module _ {A : Type 0} (op : A → A → A) (unit : A) (assoc : IsAssociative op) (comm : IsCommutative op) where
  past : (a b rest : A) → op a (op b rest) ≡ op b (op a rest)
  past a b rest = sym (assoc a b rest) ∙ ap (λ c. op c rest) (comm a b) ∙ assoc b a rest

  -- an item in place of another
  folded-set : (l : List A) (j : ℕ) (d x : A) → j < length l → op (get_or l j d) (folded op unit (set l j x)) ≡ op x (folded op unit l)
  folded-set [] j d x lt = absurd (omega arith)
  folded-set (y ∷ ys) zero d x lt = past y x (folded op unit ys)
  folded-set (y ∷ ys) (suc j) d x lt =
      past (get_or ys j d) y (folded op unit (set ys j x)) ∙ ap (op y) (folded-set ys j d x (omega arith)) ∙ past y x (folded op unit ys)

  -- two items exchanged
  folded-exchanged : (l : List A) (i j : ℕ) (d : A) → i < length l → j < length l → folded op unit (set (set l i (get_or l j d)) j (get_or l i d)) ≡ folded op unit l
  folded-exchanged [] i j d p q = absurd (omega arith)
  folded-exchanged (y ∷ ys) zero zero d p q = refl
  folded-exchanged (y ∷ ys) zero (suc j) d p q = folded-set ys j d y (omega arith)
  folded-exchanged (y ∷ ys) (suc i) zero d p q = folded-set ys i d y (omega arith)
  folded-exchanged (y ∷ ys) (suc i) (suc j) d p q = ap (op y) (folded-exchanged ys i j d (omega arith) (omega arith))

  pub folded-permutation : (xs ys : List A) → IsPermutation xs ys → folded op unit ys ≡ folded op unit xs
  folded-permutation xs ys =
      IsPermutation-keeps xs (λ l. folded op unit l ≡ folded op unit xs) refl
      (λ l i j p q h. ap (folded op unit) (sym (swap_is l i j unit p q)) ∙ folded-exchanged l i j unit p q ∙ h) ys
