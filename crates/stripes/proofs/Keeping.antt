-- What keeps the rule of each pair.
use Rattle.std.proofs.Common.{◌≡◌, Option, Some, None, sym, ◌∙◌, ap}
use Rattle.std.specs.declared.cmp.Ordering.{Ordering}
use Rattle.std.specs.Option.{option_or}
use Rattle.versions.specs.Map.{Map, value_at, union}
use Rattle.stripe.specs.Rules.{AllKeep}

module _ {K V : Type 0} (R : K → K → Ordering) (H : K → V → Type 0) where
  union_step : (q : K) (w : V) (left right : Option V) → (left ≡ Some w → H q w) → (right ≡ Some w → H q w) → option_or left right ≡ Some w → H q w
  union_step q w None right kept_left kept_right found = kept_right found
  union_step q w (Some v) right kept_left kept_right found = kept_left found

  -- the union of two maps
  pub kept_union : ((m n : Map K V) (q : K) → value_at R (union R m n) q ≡ option_or (value_at R m q) (value_at R n q)) → (m n o : Map K V) → o ≡ union R m n → AllKeep R H m → AllKeep R H n → AllKeep R H o
  kept_union law m n o is kept_left kept_right q w found =
      union_step q w (value_at R m q) (value_at R n q) (kept_left q w) (kept_right q w)
      (sym (law m n q) ∙ sym (ap (λ (x : Map K V). value_at R x q) is) ∙ found)
