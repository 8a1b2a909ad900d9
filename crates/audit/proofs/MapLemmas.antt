-- What is so of each pair of a map stays so.
use Rattle.std.proofs.Common.{◌≡◌, true, false, not, cond, [], ◌∷◌, Some, None, refl, subst}
use Rattle.std.specs.Prelude.{Option, unwrap_or}
use Rattle.std.specs.declared.cmp.Ordering.{Ordering}
use Rattle.std.specs.declared.cmp.Ordering.TheVariants.{Less, Equal, Greater}
use Rattle.std.specs.Ordering.{eq_by_cmp}
use Rattle.std.specs.FinMap.Entries.{by_order}
use Rattle.versions.specs.Map.{Map, value_at, with_pair, without}

-- the one is so of each key, and the other of its value
abbrev pub Each : {K V : Type 0} → (K → Type 0) → (V → Type 0) → Map K V → Type 0
Each A B [] = Unit {0}
Each A B (x ∷ m) = A x.0 × B x.1 × Each A B m

pub each_weaker : {K V : Type 0} (A C : K → Type 0) (B : V → Type 0) → ((k : K) → A k → C k) → (m : Map K V) → Each A B m → Each C B m
each_weaker A C B so [] all = tt
each_weaker A C B so (x ∷ m) all = (so x.0 all.0, all.1, each_weaker A C B so m all.2)

module _ {K V : Type 0} (R : K → K → Ordering) (A : K → Type 0) (B : V → Type 0) where
  pub each_put : (m : Map K V) (k : K) (v : V) → Each A B m → A k → B v → Each A B (with_pair R m k v)
  each_put [] k v all a b = (a, b, tt)
  each_put (x ∷ m) k v all a b =
      elim (R k x.0) as (λ o. Each A B (by_order o ((k, v) ∷ x ∷ m) ((x.0, v) ∷ m) (x ∷ with_pair R m k v))) [
        | Less ↦ (a, b, all)
        | Equal ↦ (all.0, b, all.2)
        | Greater ↦ (all.0, all.1, each_put m k v all.2 a b)
      ]

  pub each_without : (m : Map K V) (k : K) → Each A B m → Each A B (without R m k)
  each_without [] k all = tt
  each_without (x ∷ m) k all =
      elim (eq_by_cmp R k x.0) as (λ b. Each A B (cond (not b) (x ∷ without R m k) (without R m k))) [
        | true ↦ each_without m k all.2
        | false ↦ (all.0, all.1, each_without m k all.2)
      ]

  -- a value that is there is one of them, and so is its key, which compares equal to the one asked for
  pub each_at : (m : Map K V) (k : K) (v : V) → Each A B m → value_at R m k ≡ Some v → (q : K) × (eq_by_cmp R k q ≡ true) × A q × B v
  each_at [] k v all e = absurd (cc)
  each_at (x ∷ m) k v all e =
      elim (eq_by_cmp R k x.0) as (λ b. eq_by_cmp R k x.0 ≡ b → cond b (Some x.1) (value_at R m k) ≡ Some v → (q : K) × (eq_by_cmp R k q ≡ true) × A q × B v) [
        | true ↦ λ is e. let same : x.1 ≡ v = cc in (x.0, is, all.0, subst B same all.1)
        | false ↦ λ is e. each_at m k v all.2 e
      ] refl e

  pub each_value_or : (m : Map K V) (k : K) (other : V) → Each A B m → B other → B (unwrap_or (value_at R m k) other)
  each_value_or m k other all b = by_found (value_at R m k) refl
    where
      by_found : (found : Option V) → value_at R m k ≡ found → B (unwrap_or found other)
      by_found None e = b
      by_found (Some v) e = (each_at m k v all e).3
