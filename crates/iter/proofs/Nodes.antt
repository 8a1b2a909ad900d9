-- How many nodes the tries of a map have.
use Rattle.std.proofs.Common.{◌≡◌, suc, ◌+◌, refl, sym, ap, ◌∙◌}
use Rattle.trie_shape.specs.Tree.{Tree, branch, bucket, Trees, no_trees, more_trees}
use Rattle.trie_shape.specs.Counts.{node_count, count_of_all}
use Rattle.trie_shape.specs.Shape.{plain, all_plain}

module _ {K V : Type 0} where
  mutual
    node_count-plain : (t : Tree K V) → node_count (plain t) ≡ node_count t
    node_count-plain (branch stamp size bitmap ts) = ap suc (count_of_all-plain ts)
    node_count-plain (bucket stamp es) = refl

    count_of_all-plain : (ts : Trees K V) → count_of_all (all_plain ts) ≡ count_of_all ts
    count_of_all-plain no_trees = refl
    count_of_all-plain (more_trees t ts) = λ i. node_count-plain t i + count_of_all-plain ts i

  -- trees that are one but for their stamps have as many nodes
  pub same_node_count : (t u : Tree K V) → plain t ≡ plain u → node_count t ≡ node_count u
  same_node_count t u e = sym (node_count-plain t) ∙ ap node_count e ∙ node_count-plain u
