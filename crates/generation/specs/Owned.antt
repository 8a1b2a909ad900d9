-- How many nodes of a trie carry a stamp.
use Rattle.std.specs.Prelude.{ℕ, ◌+◌, ◌==◌, cond}
use Rattle.trie_shape.specs.Tree.{Tree, branch, bucket, Trees, no_trees, more_trees}

module _ {K V : Type 0} where
  abbrev mutual
    -- the nodes of a trie that carry the stamp
    pub own_below : ℕ → Tree K V → ℕ
    own_below own (branch stamp size bitmap ts) = cond (stamp == own) 1 0 + own_of_all own ts
    own_below own (bucket stamp es) = cond (stamp == own) 1 0

    -- the same of several tries
    pub own_of_all : ℕ → Trees K V → ℕ
    own_of_all own no_trees = 0
    own_of_all own (more_trees t ts) = own_below own t + own_of_all own ts
