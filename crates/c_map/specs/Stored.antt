-- What contracts see of a map for callers that are not in Rattle.
use Rattle.std.specs.Prelude.{ℕ, List}
use Rattle.versions.specs.Map.{Map}

-- a map from byte texts, and how many pairs it may hold
pub record Stored (V : Type 0) : Type 0 where
  pub entries : Map (List ℕ) V
  pub limit : ℕ
