use Rattle.trie_shape.specs.View.{tree}
use Rattle.test_roots.proofs.Bounds.{kept_holds, removal_holds}
use Rattle.test_roots.proofs.test_root.TestRoot.remove_in.Goals as goal

pub invariant_of-self : goal.invariant_of-self
invariant_of-self g c =
    let a = c.args in
    kept_holds g.K.Ord.cmp g.K.PathKey.path_of g.met.K.Ord.total c.root_is_map.ensures.sorted c.self.inside.most a.stamp.0 a.key.now (tree c.self.inside.root) (tree c.remove_in.new.node) c.in_err-remove_in.ensures.err c.self.invariant

pub invariant_of-self-2 : goal.invariant_of-self-2
invariant_of-self-2 g c =
    let a = c.args in
    removal_holds g.K.Ord.cmp g.K.PathKey.path_of g.met.K.Ord.total c.root_is_map.ensures.sorted c.self.inside.most a.stamp.0 a.key.now (tree c.self.inside.root) (tree c.remove_in.new.node) c.in_ok-remove_in.ensures.root c.in_ok-remove_in.ensures.map c.self.invariant.1
