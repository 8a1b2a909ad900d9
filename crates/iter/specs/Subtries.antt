-- Subtries of a trie, one after another.
use Rattle.std.specs.Prelude.{ℕ, ◌<◌, All, List, length, take, drop, flat_map, sum_by}
use Rattle.std.specs.declared.cmp.Ordering.{Ordering}
use Rattle.trie_shape.specs.Counts.{node_count}
use Rattle.trie_shape.specs.Outline.{children}
use Rattle.trie_shape.specs.Tree.{Tree, IsTrie, entries}

module _ {K V : Type 0} where
  -- the children of a node from one number on and below another
  abbrev pub children_between : Tree K V → ℕ → ℕ → List (Tree K V)
  children_between t from to = drop from (take to (children t))

  -- the pairs of subtries, in the order of a walk
  abbrev pub pairs_of_all : List (Tree K V) → List (K × V)
  pairs_of_all ts = flat_map entries ts

  -- the nodes of subtries
  abbrev pub nodes_of_all : List (Tree K V) → ℕ
  nodes_of_all ts = sum_by node_count ts

module _ {K V : Type 0} (R : K → K → Ordering) (path : K → ℕ) where
  -- each is a trie from a level on, and has pairs
  abbrev pub AllStand : ℕ → List (Tree K V) → Type 0
  AllStand level ts = All (λ t. IsTrie R path level t × (0 < length (entries t))) ts
