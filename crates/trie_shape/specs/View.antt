-- What tree a node stands for.
use Rattle.std.specs.Prelude.{ℕ, zero, suc, List, [], ◌∷◌, map, take}
use Rattle.std.specs.Int.RustNames.{count_ones}
use Rattle.trie_shape.specs.Tree.{Tree, branch, bucket, Trees, no_trees, more_trees, trees}
use Rattle.trie_shape.specs.declared.node.Node.{Node, Vacant, Leaf, Bucket, Two', Four', Eight', Sixteen', All', Row_of-Node, end_of-Node, more_of-Node}

module _ {K V : Type 0} where
  -- a pair without where its parts lie
  abbrev pub pair_values : K × V → K × V
  pair_values p = p

  -- the first n of some trees
  abbrev pub first : ℕ → Trees K V → Trees K V
  first zero ts = no_trees
  first (suc n) no_trees = no_trees
  first (suc n) (more_trees t ts) = more_trees t (first n ts)

module _ {K V S X Y : Type 0} where
  abbrev mutual
    -- a node as a tree, without where it lies; of a branch's row it has as many places as the bitmap has digits
    pub tree : Node K V S X Y → Tree K V
    tree Vacant = bucket 0 []
    tree (Leaf stamp pair) = bucket stamp.0 (pair_values pair ∷ [])
    tree (Bucket stamp pairs) = bucket stamp.0 (map pair_values pairs.value.items)
    tree (Two' bitmap stamp size p shape row) = branch stamp.0 size bitmap (first (count_ones bitmap) (trees_of_row row))
    tree (Four' bitmap stamp size p shape row) = branch stamp.0 size bitmap (first (count_ones bitmap) (trees_of_row row))
    tree (Eight' bitmap stamp size p shape row) = branch stamp.0 size bitmap (first (count_ones bitmap) (trees_of_row row))
    tree (Sixteen' bitmap stamp size p shape row) = branch stamp.0 size bitmap (first (count_ones bitmap) (trees_of_row row))
    tree (All' bitmap stamp size p shape row) = branch stamp.0 size bitmap (first (count_ones bitmap) (trees_of_row row))

    -- what all places of a row hold
    pub trees_of_row : {n : _} → Row_of-Node K V S X Y n → Trees K V
    trees_of_row end_of-Node = no_trees
    trees_of_row (more_of-Node node rest) = more_trees (tree node) (trees_of_row rest)

-- what a branch has but its stamp
pub record Below (K V S X Y : Type 0) : Type 0 where
  pub size : ℕ
  pub bitmap : ℕ
  pub children : List (Node K V S X Y)

module _ {K V S X Y : Type 0} where
  -- a branch with a stamp, from what else it has
  abbrev pub branch_of : ℕ → Below K V S X Y → Tree K V
  branch_of stamp below = branch stamp below.size below.bitmap (trees (map tree below.children))

  -- a branch whose children stand in a row: as many places of it as the bitmap has digits; the others are not seen
  abbrev pub in_row : ℕ → ℕ → List (Node K V S X Y) → Below K V S X Y
  in_row size bitmap row = record { size = size; bitmap = bitmap; children = take (count_ones bitmap) row }
