use Rattle.trie_shape.specs.View.{tree}
use Rattle.test_roots.proofs.Bounds.{put_holds}
use Rattle.test_roots.proofs.test_root.TestRoot.with_put.Goals as goal

pub invariant_of-result : goal.invariant_of-result
invariant_of-result g c =
    let a = c.args in
    put_holds g.K.Ord.cmp g.K.PathKey.path_of g.met.K.Ord.total c.root_is_map.ensures.sorted c.self.inside.most a.stamp.0 (g.S.KeySlots.key_of a.key) (tree c.self.inside.root) (tree c.in_ok-with_put.field-0) (g.S.ValueSlots.value_of a.value) c.in_ok-with_put.ensures c.self.invariant.1
