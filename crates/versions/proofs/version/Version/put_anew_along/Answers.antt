use Rattle.std.proofs.Common.{rules, ◌≡◌, ◌≤◌, ◌==◌, true, is_some, not, ◌&&◌, ◌||◌, sym, subst, length}
use Rattle.trie_copy.specs.Changes.{IsPut}
use Rattle.trie_shape.specs.Roots.{map_of, word_of}
use Rattle.trie_shape.specs.Shape.{Restamps, nodes}
use Rattle.trie_shape.specs.View.{tree}
use Rattle.versions.specs.Changes.{RestampsIf}
use Rattle.versions.specs.Map.{IsMap, value_at}
use Rattle.versions.proofs.Maps.{had_room, with_pair_fits}
use Rattle.versions.proofs.version.Version.put_anew_along.Given.{Over}
use Rattle.versions.proofs.version.Version.put_anew_along.Goals as goal

-- what the trie's put says, of the root that was taken and put back
module _ (g : Over) (c : goal.Then-change g) where
  put : IsPut g.K.Ord.cmp g.K.PathKey.path_of c.self.inside.stamp.0 (g.S.KeySlots.key_of c.args.key) (g.S.ValueSlots.value_of c.args.value) c.self.inside.root c.put_back.new.self
  put =
      subst (λ t. IsPut g.K.Ord.cmp g.K.PathKey.path_of c.self.inside.stamp.0 (g.S.KeySlots.key_of c.args.key) (g.S.ValueSlots.value_of c.args.value) t c.put_back.new.self) c.take-root.ensures
      (subst (λ t. IsPut g.K.Ord.cmp g.K.PathKey.path_of c.self.inside.stamp.0 (g.S.KeySlots.key_of c.args.key) (g.S.ValueSlots.value_of c.args.value) (tree c.take-root.result) t) (sym c.put_back.ensures)
      (c.in_ok-change.ensures.put c.if-change.true))

pub invariant_of-self-then-change : goal.invariant_of-self-then-change
invariant_of-self-then-change g c =
    let R = g.K.Ord.cmp in
    let path = g.K.PathKey.path_of in
    let key = g.S.KeySlots.key_of c.args.key in
    let value = g.S.ValueSlots.value_of c.args.value in
    let limit = c.self.inside.limit in
    let old = c.self.inside.root in
    let new = c.put_back.new.self in
    let done = put g c in
    let found = value_at R (map_of R old) key in
    let sorted : IsMap R (map_of R old) = search rules in
    let written : (g.C.Condition.holds c.args.condition.now found && (not (length (map_of R old) == limit) || is_some found)) ≡ true = search rules in
    let free = had_room (g.C.Condition.holds c.args.condition.now found) (length (map_of R old) == limit) (is_some found) written in
    let fits = with_pair_fits R g.met.K.Ord.total limit (map_of R old) key value sorted c.self.invariant.1 free in (
      done.root,
      subst (λ m. length m ≤ limit) (sym done.map) fits,
      c.self.invariant.2,
      c.self.invariant.3,
      c.writes_keep_stamps_below.ensures c.self.inside.stamp.0 (word_of path key) (nodes (word_of path) old) (nodes (word_of path) new) c.self.invariant.4 done.stamps,
    )

pub returns-then-change-clause-nodes : goal.returns-then-change-clause-nodes
returns-then-change-clause-nodes g c =
    let new = nodes (word_of g.K.PathKey.path_of) c.put_back.new.self in
    let word = word_of g.K.PathKey.path_of (g.S.KeySlots.key_of c.args.key) in
    subst (λ b. RestampsIf b c.args.self.now.stamp word c.args.self.now.nodes new) (sym c.if-change.true)
    (subst (λ h. Restamps h.stamp word h.nodes new) c.self.view_is (put g c).stamps)
