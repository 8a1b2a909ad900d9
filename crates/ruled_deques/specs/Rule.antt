-- The rule of one deque.
use Rattle.std.specs.Prelude.{◌≡◌, ℕ, ◌+◌, ◌≤◌, ◌⊎◌, List, [], ◌∷◌}
use Rattle.std.specs.List.{sum_by}
use mathlib.Core.Option.{some}
use lib.ListN.{get_elem?}
use Rattle.ruled_deques.specs.declared.rule.DequeView.{DequeView}

-- an end with so many shares, through which these were pushed and taken
abbrev pub deque_view : {T : Type 0} → ℕ → List T → List T → DequeView T
deque_view n pushed taken = record { shares = n; pushed = pushed; taken = taken }

-- xs stand in ys in this order
abbrev pub StandIn : {T : Type 0} → List T → List T → Type 0
StandIn [] ys = Unit {0}
StandIn (x ∷ xs) [] = ⊥
StandIn (x ∷ xs) (y ∷ ys) = ((x ≡ y) × StandIn xs ys) ⊎ StandIn (x ∷ xs) ys

-- an end with no share has pushed and taken nothing
abbrev pub IdleIsEmpty : {T : Type 0} → List (DequeView T) → Type 0
IdleIsEmpty {T} views = (port : ℕ) (v : DequeView T) → get_elem? views port ≡ some v → v.shares ≡ 0 → (v.pushed ≡ []) × (v.taken ≡ [])

-- the first end is the owner's. What waits stands in its pushes
abbrev pub InOrder : {T : Type 0} → List T → List (DequeView T) → Type 0
InOrder {T} items views = (v : DequeView T) → get_elem? views 0 ≡ some v → StandIn items v.pushed

-- what was pushed is what was taken and what waits, however the items are weighed
abbrev pub Balanced : {T : Type 0} → List T → List (DequeView T) → Type 0
Balanced {T} items views =
    (sum_by (λ v. v.shares) views ≡ 17)
    × ((h : T → ℕ) → sum_by (λ v. sum_by h v.pushed) views ≡ sum_by (λ v. sum_by h v.taken) views + sum_by h items)
    × IdleIsEmpty views
    × InOrder items views

-- what an owner learns of an empty deque
abbrev pub Settled : {T : Type 0} → DequeView T → Type 0
Settled {T} v = (v.shares ≤ 17) × (v.shares ≡ 17 → (h : T → ℕ) → sum_by h v.pushed ≡ sum_by h v.taken)
