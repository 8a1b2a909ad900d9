use Rattle.std.proofs.Common.{◌≡◌, ℕ, Bool, Option, Some, sym, ◌∙◌}
use Rattle.std.specs.declared.cmp.Ordering.{Ordering}
use Rattle.trie_shape.specs.Tree.{Tree}
use Rattle.trie_shape.specs.View.{tree}
use Rattle.trie_shape.specs.Map.{value_at}
use Rattle.trie_shape.specs.Roots.{map_of}
use Rattle.trie_shape.specs.Tree.{entries}
use Rattle.std.specs.FinMap.{find}
use Rattle.trie_shape.proofs.Roots.{find_entries, root_is_trie}
use Rattle.trie_copy.proofs.RootWrites.{write_puts}
use Rattle.trie_copy.specs.Writes.{Writes}
use Rattle.trie_copy.specs.Changes.{IsPut}
use Rattle.trie_puts.specs.Exchanging.{Exchanges}
use Rattle.trie_puts.specs.declared.exchange.Exchange.{Exchange}
use Rattle.trie_puts.specs.declared.exchange.Exchange.TheVariants.{Done, Elsewhere}
use Rattle.trie_node.specs.Exchanged.{IsExchange}
use Rattle.trie_node.proofs.exchange.exchange_in_where_along.Goals as goal

of_root : {K V S Y : Type 0} (value_of : Y → V) (R : K → K → Ordering) (path : K → ℕ) (stamp : ℕ) (k : K) (value : Y) (holds : Option V → Bool) (old new : Tree K V) (r : Exchange V S Y) →
    find R k (entries old) ≡ value_at R (map_of R old) k → (Writes R path 0 stamp k (Some (value_of value)) old new → IsPut R path stamp k (value_of value) old new) →
    Exchanges value_of R path 0 stamp k value holds old r new → IsExchange value_of R path stamp k value holds old r new
of_root value_of R path stamp k value holds old new (Done previous) found puts h = (sym found ∙ h.0, h.1, puts h.2)
of_root value_of R path stamp k value holds old new (Elsewhere back) found puts h = h

pub exchange_at-requires : goal.exchange_at-requires
exchange_at-requires g c =
    record {
      path = c.requires.path;
      trie = root_is_trie g.K.Ord.cmp g.K.PathKey.path_of g.met.K.Ord.total g.met.K.PathKey.exact g.met.K.PathKey.small (tree c.args.node.now) c.requires.root;
    }

pub returns : goal.returns
returns g c =
    let R = g.K.Ord.cmp in
    let path = g.K.PathKey.path_of in
    let a = c.args in
    let t = tree a.node.now in
    let k = g.Q.Sought.key_of a.key in
    let new = tree c.exchange_at.new.node in
    let puts = write_puts R path g.met.K.Ord.total g.met.K.PathKey.exact g.met.K.PathKey.small a.stamp.0 k t in
    of_root g.S.ValueSlots.value_of R path a.stamp.0 k a.value (g.C.Condition.holds a.condition.now) t new c.exchange_at.result
    (find_entries R path g.met.K.Ord.total t k) (puts new (g.S.ValueSlots.value_of a.value)) c.exchange_at.ensures
