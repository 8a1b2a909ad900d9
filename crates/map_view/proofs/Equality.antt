-- Two lists that are compared one item after another.
use Rattle.std.proofs.Common.{◌≡◌, ℕ, nat_eq, length, Bool, true, false, not, ◌&&◌, List, [], ◌∷◌, Option, Some, None, MatchOption, is_some, refl, sym, ◌∙◌, subst, true≢false}
use Rattle.std.proofs.lemmas.Bool.{eqb-true}
use Rattle.std.specs.Cmp.Lexicographic.{pointwise, unequal}

module _ {A : Type 0} (E : A → A → Bool) where
  -- what is left of both behind items of them, where the whole is w
  next : {x y : A} {xs ys left right : List A} {w : Bool} → left ≡ x ∷ xs → right ≡ y ∷ ys → pointwise E left right ≡ w → (E x y && pointwise E xs ys) ≡ w
  next {x} {y} {xs} {ys} {left} {right} {w} l r whole = subst (λ (b : List A). pointwise E (x ∷ xs) b ≡ w) r (subst (λ (a : List A). pointwise E a right ≡ w) l whole)

  unequal_first : (e left w b : Bool) → b ≡ e → b ≡ false → (e && left) ≡ w → false ≡ w
  unequal_first false left w b is so whole = whole
  unequal_first true left w b is so whole = absurd (true≢false (sym is ∙ so))

  equal_first : (e left w b : Bool) → b ≡ e → b ≡ true → (e && left) ≡ w → left ≡ w
  equal_first true left w b is so whole = whole
  equal_first false left w b is so whole = absurd (true≢false (sym so ∙ is))

  -- items that differ tell the lists apart
  pub apart : {x y : A} {xs ys left right : List A} {w : Bool} (b : Bool) → left ≡ x ∷ xs → right ≡ y ∷ ys → pointwise E left right ≡ w → b ≡ E x y → b ≡ false → false ≡ w
  apart {x} {y} {xs} {ys} {left} {right} {w} b l r whole is so = unequal_first (E x y) (pointwise E xs ys) w b is so (next l r whole)

  -- behind equal items the rest decides
  pub alike : {x y : A} {xs ys left right : List A} {w : Bool} (b : Bool) → left ≡ x ∷ xs → right ≡ y ∷ ys → pointwise E left right ≡ w → b ≡ E x y → b ≡ true → pointwise E xs ys ≡ w
  alike {x} {y} {xs} {ys} {left} {right} {w} b l r whole is so = equal_first (E x y) (pointwise E xs ys) w b is so (next l r whole)

  -- a list that goes on is not equal to one that has ended
  pub longer : {x : A} {xs left right : List A} {w : Bool} → left ≡ x ∷ xs → right ≡ [] → pointwise E left right ≡ w → false ≡ w
  longer {x} {xs} {left} {right} {w} l r whole = subst (λ (b : List A). pointwise E (x ∷ xs) b ≡ w) r (subst (λ (a : List A). pointwise E a right ≡ w) l whole)

  none : (b : Bool) → false ≡ not b → b ≡ true
  none true is = refl
  none false is = absurd (true≢false (sym is))

  some : (b : Bool) → true ≡ not b → b ≡ false
  some false is = refl
  some true is = absurd (true≢false is)

  module _ {B : Type 0} (item : B → A) where
    -- where the left one has ended, they are equal if the right one gives nothing more
    pub ended : {left : List A} {w : Bool} (right after : List A) (b : Bool) (o : Option B) → left ≡ [] → MatchOption o ((right ≡ []) × (after ≡ [])) (λ y. right ≡ item y ∷ after) → pointwise E left right ≡ w → is_some o ≡ not b → b ≡ w
    ended {left} {w} right after b None l r whole is = none b is ∙ subst (λ (c : List A). pointwise E [] c ≡ w) r.0 (subst (λ (a : List A). pointwise E a right ≡ w) l whole)
    ended {left} {w} right after b (Some y) l r whole is = some b is ∙ subst (λ (c : List A). pointwise E [] c ≡ w) r (subst (λ (a : List A). pointwise E a right ≡ w) l whole)

  not_true : (b : Bool) → (b ≡ true → ⊥) → b ≡ false
  not_true false f = refl
  not_true true f = absurd (f refl)

  -- lists of different lengths are not equal
  pub apart_by_length : (left right : List A) (a b : ℕ) → length left ≡ a → length right ≡ b → (a ≡ b → ⊥) → nat_eq a b ≡ pointwise E left right
  apart_by_length left right a b l r differ = not_true (nat_eq a b) (λ e. differ (eqb-true a b e)) ∙ sym (unequal E left right (λ same. differ (sym l ∙ same ∙ r)))
