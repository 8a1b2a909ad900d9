-- What a put and a removal make of a root.
use Rattle.std.specs.Prelude.{◌≡◌, ℕ}
use Rattle.std.specs.declared.cmp.Ordering.{Ordering}
use Rattle.trie_shape.specs.Map.{with_pair, without}
use Rattle.trie_shape.specs.Tree.{Tree}
use Rattle.trie_shape.specs.Shape.{nodes, Restamps}
use Rattle.trie_shape.specs.Roots.{map_of, word_of, IsRoot}

-- the new tree is the root of the old map with k mapped to v;
-- the nodes of k's path have the stamp, and all others stood there before
pub record IsPut {K V : Type 0} (R : K → K → Ordering) (path : K → ℕ) (stamp : ℕ) (k : K) (v : V) (old new : Tree K V) : Type 0 where
  pub root : IsRoot R path new
  pub map : map_of R new ≡ with_pair R (map_of R old) k v
  pub stamps : Restamps stamp (word_of path k) (nodes (word_of path) old) (nodes (word_of path) new)

-- the new tree is the root of the old map without k, with the stamps by the same rule
pub record IsRemoval {K V : Type 0} (R : K → K → Ordering) (path : K → ℕ) (stamp : ℕ) (k : K) (old new : Tree K V) : Type 0 where
  pub root : IsRoot R path new
  pub map : map_of R new ≡ without R (map_of R old) k
  pub stamps : Restamps stamp (word_of path k) (nodes (word_of path) old) (nodes (word_of path) new)
