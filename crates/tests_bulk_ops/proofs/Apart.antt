-- Two maps of one pair each.
use Rattle.std.proofs.Common.{◌≡◌, Bool, true, false, ℕ, List, [], ◌∷◌, Some, None, cond, is_some, refl, ap, ◌∙◌, arith}
use Rattle.std.specs.Prelude.{ℤ}
use Rattle.std.specs.FinMap.{nat_cmp-IsAntisymmetric, slice_cmp-IsAntisymmetric}
use Rattle.std.specs.declared.cmp.Ordering.{Ordering}
use Rattle.std.specs.declared.cmp.Ordering.TheVariants.{Less, Equal, Greater}
use Rattle.std.specs.Ordering.{is_eq}
use Rattle.combiner.specs.Unions.{AreApart}
use Rattle.keys.specs.Order.{bytes_cmp}

module _ (k l : List ℕ) (v w : ℤ) (other : is_eq (bytes_cmp k l) ≡ false) where
  step : (q : List ℕ) (o : Ordering) → bytes_cmp q k ≡ o → is_some (cond (is_eq o) (Some v) None) ≡ true → cond (is_eq (bytes_cmp q l)) (Some w) None ≡ None
  step q Equal is e = ap (λ (z : List ℕ). cond (is_eq (bytes_cmp z l)) (Some w) None) (slice_cmp-IsAntisymmetric nat_cmp-IsAntisymmetric q k is) ∙ ap (λ (b : Bool). cond b (Some w) None) other
  step q Less is e = absurd (cc)
  step q Greater is e = absurd (cc)

  -- they are apart where their keys are two
  pub one_apart : AreApart bytes_cmp ((k, v) ∷ []) ((l, w) ∷ [])
  one_apart = record { left = refl; right = refl; apart = λ q e. step q (bytes_cmp q k) refl e; few = omega arith }
