-- What contracts see of a walk.
use Rattle.std.specs.Prelude.{◌≡◌, ◌<◌, ◌^◌, ℕ, List, Option}
use Rattle.std.specs.Iterator.{YieldsFirstBy}
use denote.Ref.{Bor}

-- a walk: the pairs that are still to come, in order; and how many nodes it enters from its beginning to its end
pub record Walk (K V : Type 0) : Type 0 where
  pub rest : List (K × V)
  pub nodes : ℕ

-- a pair that is lent as it lies in a row, without where its parts lie
abbrev pub item : {K V X Y : Type 0} (key_of : X → K) (value_of : Y → V) → Bor X × Bor Y → K × V
item key_of value_of x = (key_of x.0.now, value_of x.1.now)

-- a step of a walk: it returns the first of the pairs still to come and leaves the others, or there are none; and the walk goes on to enter as many nodes in all as before
pub record IsStep {K V X Y : Type 0} (key_of : X → K) (value_of : Y → V) (old : Walk K V) (result : Option (Bor X × Bor Y)) (new : Walk K V) : Type 0 where
  pub steps : YieldsFirstBy (item key_of value_of) (λ (w : Walk K V). w.rest) old result new
  pub nodes : old.nodes < 2 ^ 64 → new.nodes ≡ old.nodes
