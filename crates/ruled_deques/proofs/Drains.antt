-- What an owner knows as its deque is emptied.
use Rattle.std.proofs.Common.{◌≡◌, ℕ, ◌+◌, List, [], ◌∷◌, ◌++◌, sym, ap, subst, ◌∙◌, arith}
use Rattle.std.specs.List.{sum_by}
use Rattle.std.proofs.lemmas.List.Sums.{sum_by_push}
use Rattle.ruled_deques.specs.declared.rule.DequeView.{DequeView}
use Rattle.ruled_deques.specs.Rule.{deque_view, Settled}

module _ {T : Type 0} where
  -- since the view u with the items `start`, the items r were taken
  abbrev Drained : DequeView T → DequeView T → List T → List T → Type 0
  Drained v u start r =
      (v.shares ≡ u.shares)
      × ((h : T → ℕ) → sum_by h v.taken + sum_by h start ≡ sum_by h u.taken + sum_by h r)
      × ((h : T → ℕ) → sum_by h v.pushed ≡ sum_by h u.pushed)

  -- one item more
  pub drain_next : (v w u : DequeView T) (start r s : List T) (x : T) → w ≡ deque_view v.shares v.pushed (v.taken ++ x ∷ []) → s ≡ r ++ x ∷ [] → Drained v u start r → Drained w u start s
  drain_next v w u start r s x e f d = (
    ap (λ (y : DequeView T). y.shares) e ∙ d.0,
    (λ h. omega (arith, d.1 h, ap (λ (y : DequeView T). sum_by h y.taken) e, sum_by_push h v.taken x, ap (sum_by h) f, sum_by_push h r x)),
    λ h. ap (λ (y : DequeView T). sum_by h y.pushed) e ∙ d.2 h,
  )

  -- none is left
  pub drain_ends : (v w u : DequeView T) (start r s : List T) → w ≡ v → Settled v → s ≡ r → Drained v u start r
      → Settled w × (w.shares ≡ u.shares) × ((h : T → ℕ) → sum_by h w.taken + sum_by h start ≡ sum_by h u.taken + sum_by h s) × ((h : T → ℕ) → sum_by h w.pushed ≡ sum_by h u.pushed)
  drain_ends v w u start r s e done f d = (
    subst Settled (sym e) done,
    ap (λ (y : DequeView T). y.shares) e ∙ d.0,
    (λ h. omega (arith, d.1 h, ap (λ (y : DequeView T). sum_by h y.taken) e, ap (sum_by h) f)),
    λ h. ap (λ (y : DequeView T). sum_by h y.pushed) e ∙ d.2 h,
  )
