use Rattle.std.proofs.Common.{◌≤◌, sym, subst, length}
use Rattle.trie_copy.specs.Changes.{IsRemoval}
use Rattle.trie_shape.specs.Roots.{map_of, word_of}
use Rattle.trie_shape.specs.Shape.{Restamps, nodes}
use Rattle.trie_shape.specs.View.{tree}
use Rattle.versions.specs.Changes.{RestampsIf}
use Rattle.versions.specs.Map.{IsMap}
use Rattle.versions.proofs.Maps.{without_fits}
use Rattle.versions.proofs.version.Version.remove_where_along.Given.{Over}
use Rattle.versions.proofs.version.Version.remove_where_along.Goals as goal

-- what the trie's removal says, of the root that was taken and put back
module _ (g : Over) (c : goal.Then-change g) where
  removal : IsRemoval g.K.Ord.cmp g.K.PathKey.path_of c.self.inside.stamp.0 (g.Q.Sought.key_of c.args.key) c.self.inside.root c.put_back.new.self
  removal =
      subst (λ t. IsRemoval g.K.Ord.cmp g.K.PathKey.path_of c.self.inside.stamp.0 (g.Q.Sought.key_of c.args.key) t c.put_back.new.self) c.take-root.ensures
      (subst (λ t. IsRemoval g.K.Ord.cmp g.K.PathKey.path_of c.self.inside.stamp.0 (g.Q.Sought.key_of c.args.key) (tree c.take-root.result) t) (sym c.put_back.ensures)
      (c.in_ok-change.ensures.removed c.if-change.true))

pub invariant_of-self-then-change : goal.invariant_of-self-then-change
invariant_of-self-then-change g c =
    let R = g.K.Ord.cmp in
    let path = g.K.PathKey.path_of in
    let key = g.Q.Sought.key_of c.args.key in
    let limit = c.self.inside.limit in
    let old = c.self.inside.root in
    let new = c.put_back.new.self in
    let done = removal g c in
    let sorted : IsMap R (map_of R old) = c.root_is_map.ensures.sorted old in
    let fits = without_fits R g.met.K.Ord.total limit (map_of R old) key sorted c.self.invariant.1 in (
      done.root,
      subst (λ m. length m ≤ limit) (sym done.map) fits,
      c.self.invariant.2,
      c.self.invariant.3,
      c.writes_keep_stamps_below.ensures c.self.inside.stamp.0 (word_of path key) (nodes (word_of path) old) (nodes (word_of path) new) c.self.invariant.4 done.stamps,
    )

pub returns-then-change-clause-nodes : goal.returns-then-change-clause-nodes
returns-then-change-clause-nodes g c =
    let new = nodes (word_of g.K.PathKey.path_of) c.put_back.new.self in
    let word = word_of g.K.PathKey.path_of (g.Q.Sought.key_of c.args.key) in
    subst (λ b. RestampsIf b c.args.self.now.stamp word c.args.self.now.nodes new) (sym c.if-change.true)
    (subst (λ h. Restamps h.stamp word h.nodes new) c.self.view_is (removal g c).stamps)
