use Rattle.trie_shape.specs.View.{tree}
use Rattle.test_roots.proofs.Bounds.{exchange_holds}
use Rattle.test_roots.proofs.test_root.TestRoot.exchange.Goals as goal

pub invariant_of-self : goal.invariant_of-self
invariant_of-self g c =
    let a = c.args in
    exchange_holds g.K.Ord.cmp g.K.PathKey.path_of g.met.K.Ord.total c.root_is_map.ensures.sorted c.self.inside.most a.stamp.0 a.key.now (tree c.self.inside.root) (tree c.exchange_in_where_along-exchange.new.node) g.S.ValueSlots.value_of a.value (g.C.Condition.holds a.condition.now) c.exchange_in_where_along-exchange.result c.exchange_in_where_along-exchange.ensures c.self.invariant
