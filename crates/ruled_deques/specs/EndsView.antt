-- What contracts see of a worker's ends.
use Rattle.std.specs.Prelude.{ℕ, zero, suc, List, [], ◌∷◌}

-- the place of the worker's own deque, what was pushed there, and what the worker has taken from all deques
pub record EndsView (T : Type 0) : Type 0 where
  pub place : ℕ
  pub pushed : List T
  pub taken : List T

-- what is pushed on the deque at a place before the workers begin: the first item, at the place 0
abbrev pub given : {T : Type 0} → T → ℕ → List T
given x zero = x ∷ []
given x (suc place) = []
