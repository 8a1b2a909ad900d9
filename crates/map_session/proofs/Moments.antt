-- The map of one moment.
use Rattle.std.proofs.Common.{◌≡◌, cond, List, [], ◌∷◌, length, map, Option, Some, None, refl, sym, ap, ◌∙◌, arith}
use Rattle.std.proofs.lemmas.Option.{none-some}
use Rattle.std.specs.declared.cmp.Ordering.{Ordering}
use Rattle.std.specs.Ordering.{is_eq}
use Rattle.std.specs.Cmp.{IsTotalOrder, tied_itself}
use Rattle.versions.specs.Map.{Map, value_at}

module _ {K V : Type 0} (R : K → K → Ordering) (log : K → Option V) (m : Map K V) (same : (k : K) → value_at R m k ≡ log k) where
  -- each of several keys has its value
  pub values_of : {Q : Type 0} (key_of : Q → K) (keys : List Q) → map (λ (q : Q). value_at R m (key_of q)) keys ≡ map (λ (q : Q). log (key_of q)) keys
  values_of key_of [] = refl
  values_of key_of (q ∷ qs) = ap (λ (o : Option V). o ∷ map (λ (p : _). value_at R m (key_of p)) qs) (same (key_of q)) ∙ ap (λ (os : List (Option V)). log (key_of q) ∷ os) (values_of key_of qs)

-- a map with no pairs leaves no key a value
pub none_there : {K V : Type 0} (R : K → K → Ordering) (log : K → Option V) (m : Map K V) → ((k : K) → value_at R m k ≡ log k) → length m ≡ 0 → (k : K) → log k ≡ None
none_there R log [] same none k = sym (same k)
none_there R log (x ∷ m) same none k = absurd (omega (arith, none))

-- and no other map does
pub none_counted : {K V : Type 0} (R : K → K → Ordering) (log : K → Option V) (m : Map K V) → IsTotalOrder R → ((k : K) → value_at R m k ≡ log k) → ((k : K) → log k ≡ None) → length m ≡ 0
none_counted R log [] total same none = refl
none_counted R log (x ∷ m) total same none =
    absurd (none-some x.1 (sym (none x.0) ∙ (sym (same x.0) ∙ ap (λ (c : Ordering). cond (is_eq c) (Some x.1) (value_at R m x.0)) (tied_itself total x.0))))
