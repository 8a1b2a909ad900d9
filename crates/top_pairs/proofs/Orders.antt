-- What is not less, in a total order.
use Rattle.std.proofs.Common.{◌≡◌, ◌≢◌, T, sym, ap, subst, ◌∙◌}
use Rattle.std.specs.Cmp.{IsTotalOrder}
use Rattle.std.specs.Ordering.{is_lt, ordering_reverse}
use Rattle.std.specs.declared.cmp.Ordering.{Ordering}
use Rattle.std.specs.declared.cmp.Ordering.TheVariants.{Less, Equal, Greater}

pub greater_not_less : Greater ≢ Less
greater_not_less e = subst (λ r. T (is_lt r)) (sym e) tt

pub equal_not_less : Equal ≢ Less
equal_not_less e = subst (λ r. T (is_lt r)) (sym e) tt

module _ {S : Type 0} (R : S → S → Ordering) (o : IsTotalOrder R) where
  lower_by : (x y s : S) (r : Ordering) → R y x ≡ r → R x y ≢ Less → R x s ≡ Less → R y s ≡ Less
  lower_by x y s Less e not less = o.trans y x s e less
  lower_by x y s Equal e not less = o.congr y x s e ∙ less
  lower_by x y s Greater e not less = absurd (not (o.antisymm x y ∙ ap ordering_reverse e))

  -- what is no higher than something lower than s is lower than s
  pub lower : (x y s : S) → R x y ≢ Less → R x s ≡ Less → R y s ≡ Less
  lower x y s = lower_by x y s (R y x) (λ i. R y x)

  -- at least y, which is at least z
  pub at_least : (x y z : S) → R x y ≢ Less → R y z ≢ Less → R x z ≢ Less
  at_least x y z not other less = other (lower x y z not less)

  -- what is higher is no lower
  pub not_less : (x y : S) → R x y ≡ Less → R y x ≢ Less
  not_less x y less other = greater_not_less (sym (o.antisymm y x ∙ ap ordering_reverse less) ∙ other)
