-- What keeps the rule of each pair.
use Rattle.std.proofs.Common.{◌≡◌, Bool, true, false, cond, Option, Some, None, unwrap_or, refl, sym, ◌∙◌, ap, subst}
use Rattle.std.proofs.lemmas.Option.{none-some}
use Rattle.std.specs.declared.cmp.Ordering.{Ordering}
use Rattle.std.specs.Cmp.{Equal-is}
use Rattle.std.specs.Ordering.{eq_by_cmp}
use Rattle.versions.specs.Map.{Map, IsAntisymmetric, value_at, with_pair, without}
use Rattle.stripe.specs.Rules.{AllKeep}

module _ {K V : Type 0} (R : K → K → Ordering) (H : K → V → Type 0) where
  put_step : (q k : K) (v w : V) (is_key : Bool) (before : Option V) → (is_key ≡ true → q ≡ k) → H k v → (before ≡ Some w → H q w) → cond is_key (Some v) before ≡ Some w → H q w
  put_step q k v w true before same new kept found =
      subst (λ (x : K). H x w) (sym (same refl)) (subst (λ (x : V). H k x) (ap (λ (o : Option V). unwrap_or o v) found) new)
  put_step q k v w false before same new kept found = kept found

  -- a put of a pair that keeps the rule
  pub kept_put : ((m : Map K V) (k q : K) (v : V) → value_at R (with_pair R m k v) q ≡ cond (eq_by_cmp R q k) (Some v) (value_at R m q)) → IsAntisymmetric R → (m n : Map K V) (k : K) (v : V) → n ≡ with_pair R m k v → AllKeep R H m → H k v → AllKeep R H n
  kept_put law exact m n k v is kept new q w found =
      put_step q k v w (eq_by_cmp R q k) (value_at R m q) (λ e. exact q k ((Equal-is (R q k)).0 e)) new (kept q w)
      (sym (law m k q v) ∙ sym (ap (λ (x : Map K V). value_at R x q) is) ∙ found)

  remove_step : (q : K) (w : V) (is_key : Bool) (before : Option V) → (before ≡ Some w → H q w) → cond is_key None before ≡ Some w → H q w
  remove_step q w true before kept found = absurd (none-some w found)
  remove_step q w false before kept found = kept found

  -- a removal
  pub kept_remove : ((m : Map K V) (k q : K) → value_at R (without R m k) q ≡ cond (eq_by_cmp R k q) None (value_at R m q)) → (m n : Map K V) (k : K) → n ≡ without R m k → AllKeep R H m → AllKeep R H n
  kept_remove law m n k is kept q w found =
      remove_step q w (eq_by_cmp R k q) (value_at R m q) (kept q w)
      (sym (law m k q) ∙ sym (ap (λ (x : Map K V). value_at R x q) is) ∙ found)
