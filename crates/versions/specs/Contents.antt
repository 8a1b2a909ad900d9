-- What contracts see of a version.
use Rattle.std.specs.Prelude.{ℕ}
use Rattle.versions.specs.Map.{Map}
use Rattle.trie_shape.specs.Shape.{Nodes}

-- a map, how many pairs it may hold, its stamp, and the nodes of its trie with their stamps
pub record Contents (K V : Type 0) : Type 0 where
  pub entries : Map K V
  pub limit : ℕ
  pub stamp : ℕ
  pub nodes : Nodes
