use Rattle.std.proofs.Common.{sym, subst}
use Rattle.trie_node.specs.Exchanged.{IsExchange}
use Rattle.trie_shape.specs.Roots.{word_of}
use Rattle.trie_shape.specs.Shape.{nodes}
use Rattle.trie_shape.specs.View.{tree}
use Rattle.versions.specs.Exchanges.{Exchanges}
use Rattle.versions.proofs.Exchanging.{contents, exchanges-contents, within-exchange}
use Rattle.versions.proofs.version.Version.exchange_along.Given.{Over}
use Rattle.versions.proofs.version.Version.exchange_along.Goals as goal

-- what the trie's exchange says, of the root that was taken and put back
module _ (g : Over) (c : goal.After-put_back g) where
  exchange : IsExchange g.S.ValueSlots.value_of g.K.Ord.cmp g.K.PathKey.path_of c.self.inside.stamp.0 (g.Q.Sought.key_of c.args.key) c.args.value (g.C.Condition.holds c.args.condition.now) c.self.inside.root c.exchange_in_where_along-exchange.result c.put_back.new.self
  exchange =
      subst (λ t. IsExchange g.S.ValueSlots.value_of g.K.Ord.cmp g.K.PathKey.path_of c.self.inside.stamp.0 (g.Q.Sought.key_of c.args.key) c.args.value (g.C.Condition.holds c.args.condition.now) t c.exchange_in_where_along-exchange.result c.put_back.new.self) c.take-root.ensures
      (subst (λ t. IsExchange g.S.ValueSlots.value_of g.K.Ord.cmp g.K.PathKey.path_of c.self.inside.stamp.0 (g.Q.Sought.key_of c.args.key) c.args.value (g.C.Condition.holds c.args.condition.now) (tree c.take-root.result) c.exchange_in_where_along-exchange.result t) (sym c.put_back.ensures)
      c.exchange_in_where_along-exchange.ensures)

pub invariant_of-self : goal.invariant_of-self
invariant_of-self g c =
    let R = g.K.Ord.cmp in
    let path = g.K.PathKey.path_of in
    let key = g.Q.Sought.key_of c.args.key in
    let old = c.self.inside.root in
    let new = c.put_back.new.self in
    within-exchange g.S.ValueSlots.value_of R path c.self.inside.limit c.self.inside.stamp.0 key c.args.value (g.C.Condition.holds c.args.condition.now) old new
    g.met.K.Ord.total (c.root_is_map.ensures.sorted old) (c.writes_keep_stamps_below.ensures c.self.inside.stamp.0 (word_of path key) (nodes (word_of path) old) (nodes (word_of path) new))
    c.self.invariant c.exchange_in_where_along-exchange.result (exchange g c)

pub returns : goal.returns
returns g c =
    let R = g.K.Ord.cmp in
    let path = g.K.PathKey.path_of in
    let key = g.Q.Sought.key_of c.args.key in
    let holds = g.C.Condition.holds c.args.condition.now in
    let limit = c.self.inside.limit in
    let stamp = c.self.inside.stamp.0 in
    subst (λ was. Exchanges g.S.ValueSlots.value_of R path key c.args.value holds was c.exchange_in_where_along-exchange.result (contents R path limit stamp c.put_back.new.self)) c.self.view_is
    (exchanges-contents g.S.ValueSlots.value_of R path limit stamp key c.args.value holds c.self.inside.root c.put_back.new.self c.exchange_in_where_along-exchange.result (exchange g c))
