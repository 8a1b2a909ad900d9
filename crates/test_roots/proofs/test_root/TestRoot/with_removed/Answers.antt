use Rattle.trie_shape.specs.View.{tree}
use Rattle.test_roots.proofs.Bounds.{removal_holds}
use Rattle.test_roots.proofs.test_root.TestRoot.with_removed.Goals as goal

pub invariant_of-result : goal.invariant_of-result
invariant_of-result g c =
    let a = c.args in
    removal_holds g.K.Ord.cmp g.K.PathKey.path_of g.met.K.Ord.total c.root_is_map.ensures.sorted c.self.inside.most a.stamp.0 a.key.now (tree c.self.inside.root) (tree c.in_ok-with_removed.field-0) c.in_ok-with_removed.ensures.root c.in_ok-with_removed.ensures.map c.self.invariant.1
