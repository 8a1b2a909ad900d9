use Rattle.trie_shape.specs.View.{tree}
use Rattle.test_roots.proofs.Bounds.{kept_holds, put_holds}
use Rattle.test_roots.proofs.test_root.TestRoot.put_in.Goals as goal

pub invariant_of-self : goal.invariant_of-self
invariant_of-self g c =
    let a = c.args in
    kept_holds g.K.Ord.cmp g.K.PathKey.path_of g.met.K.Ord.total c.root_is_map.ensures.sorted c.self.inside.most a.stamp.0 (g.S.KeySlots.key_of a.key) (tree c.self.inside.root) (tree c.put_in.new.node) c.in_err-put_in.ensures.err c.self.invariant

pub invariant_of-self-2 : goal.invariant_of-self-2
invariant_of-self-2 g c =
    let a = c.args in
    put_holds g.K.Ord.cmp g.K.PathKey.path_of g.met.K.Ord.total c.root_is_map.ensures.sorted c.self.inside.most a.stamp.0 (g.S.KeySlots.key_of a.key) (tree c.self.inside.root) (tree c.put_in.new.node) (g.S.ValueSlots.value_of a.value) c.in_ok-put_in.ensures.put c.self.invariant.1
