-- What is kept of all open jobs when one is opened or closed.
use Rattle.std.proofs.Common.{◌≡◌, ℕ, ◌+◌, ◌≤◌, true, false, not, cond, [], ◌∷◌, length, subst, arith, Option, Some}
use Rattle.std.specs.declared.cmp.Ordering.TheVariants.{Less, Equal, Greater}
use Rattle.std.specs.Ordering.{nat_cmp, eq_by_cmp}
use Rattle.std.specs.FinMap.Entries.{by_order}
use Rattle.versions.specs.Map.{Map, value_at, without, with_pair}
use Rattle.handles.specs.Machine.{Job}
use Rattle.handles.specs.Jobs.{AllCanFinish, CanFinish}

module _ {K V Q : Type 0} (target : Q → Option ℕ) (limit : ℕ) where
  -- an open job is one of them
  pub can_finish : (js : Map ℕ (Job K V Q)) (n : ℕ) (j : Job K V Q) → AllCanFinish target limit js → value_at nat_cmp js n ≡ Some j → CanFinish target limit j
  can_finish [] n j all e = absurd (cc)
  can_finish (x ∷ js) n j all e =
      elim (eq_by_cmp nat_cmp n x.0) as (λ b. cond b (Some x.1) (value_at nat_cmp js n) ≡ Some j → CanFinish target limit j) [
        | true ↦ λ e. let same : x.1 ≡ j = cc in subst (CanFinish target limit) same all.0
        | false ↦ λ e. can_finish js n j all.1 e
      ] e

  pub can_finish-put : (js : Map ℕ (Job K V Q)) (n : ℕ) (j : Job K V Q) → AllCanFinish target limit js → CanFinish target limit j → AllCanFinish target limit (with_pair nat_cmp js n j)
  can_finish-put [] n j all new = (new, tt)
  can_finish-put (x ∷ js) n j all new =
      elim (nat_cmp n x.0) as (λ o. AllCanFinish target limit (by_order o ((n, j) ∷ x ∷ js) ((x.0, j) ∷ js) (x ∷ with_pair nat_cmp js n j))) [
        | Less ↦ (new, (all.0, all.1))
        | Equal ↦ (new, all.1)
        | Greater ↦ (all.0, can_finish-put js n j all.1 new)
      ]

  pub can_finish-without : (js : Map ℕ (Job K V Q)) (n : ℕ) → AllCanFinish target limit js → AllCanFinish target limit (without nat_cmp js n)
  can_finish-without [] n all = tt
  can_finish-without (x ∷ js) n all =
      elim (eq_by_cmp nat_cmp n x.0) as (λ b. AllCanFinish target limit (cond (not b) (x ∷ without nat_cmp js n) (without nat_cmp js n))) [
        | true ↦ can_finish-without js n all.1
        | false ↦ (all.0, can_finish-without js n all.1)
      ]

module _ {X : Type 0} where
  pub length-put : (m : Map ℕ X) (n : ℕ) (x : X) → length (with_pair nat_cmp m n x) ≤ length m + 1
  length-put [] n x = omega arith
  length-put (y ∷ m) n x =
      elim (nat_cmp n y.0) as (λ o. length (by_order o ((n, x) ∷ y ∷ m) ((y.0, x) ∷ m) (y ∷ with_pair nat_cmp m n x)) ≤ length (y ∷ m) + 1) [
        | Less ↦ omega arith
        | Equal ↦ omega arith
        | Greater ↦ omega (arith, length-put m n x)
      ]

  length-without : (m : Map ℕ X) (n : ℕ) → length (without nat_cmp m n) ≤ length m
  length-without [] n = omega arith
  length-without (y ∷ m) n =
      elim (eq_by_cmp nat_cmp n y.0) as (λ b. length (cond (not b) (y ∷ without nat_cmp m n) (without nat_cmp m n)) ≤ length (y ∷ m)) [
        | true ↦ omega (arith, length-without m n)
        | false ↦ omega (arith, length-without m n)
      ]

  -- where there is a value, fewer are left
  pub fewer : (m : Map ℕ X) (n : ℕ) (x : X) → value_at nat_cmp m n ≡ Some x → length (without nat_cmp m n) + 1 ≤ length m
  fewer [] n x e = absurd (cc)
  fewer (y ∷ m) n x e =
      elim (eq_by_cmp nat_cmp n y.0) as (λ b. cond b (Some y.1) (value_at nat_cmp m n) ≡ Some x → length (cond (not b) (y ∷ without nat_cmp m n) (without nat_cmp m n)) + 1 ≤ length (y ∷ m)) [
        | true ↦ λ e. omega (arith, length-without m n)
        | false ↦ λ e. omega (arith, fewer m n x e)
      ] e
