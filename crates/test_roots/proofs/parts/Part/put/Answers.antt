use Rattle.std.proofs.Common.{◌≡◌, ap, sym, ◌∙◌}
use Rattle.hash_path.specs.Digits.{digit}
use Rattle.trie_copy.specs.Changes.{IsPut}
use Rattle.trie_shape.specs.Roots.{word_of}
use Rattle.trie_shape.specs.Shape.{nodes}
use Rattle.trie_shape.specs.View.{tree}
use Rattle.test_roots.proofs.Puts.{put_each, put_few}
use Rattle.test_roots.proofs.parts.Part.put.Goals as goal

pub invariant_of-self : goal.invariant_of-self
invariant_of-self g c =
    let R = g.K.Ord.cmp in
    let path = g.K.PathKey.path_of in
    let total = g.met.K.Ord.total in
    let exact = g.met.K.PathKey.exact in
    let r = c.self.inside in
    let key = c.in_ok-key.key.value in
    let value = c.in_ok-value.value.value in
    let old = tree r.root in
    let new = tree c.in_ok-self-inside.field-0 in
    let put : IsPut R path r.newest.0 key value old new = c.in_ok-self-inside.ensures in
    let key_is : key ≡ c.args.key = c.in_ok-key.ensures.ok in
    let here : digit (path key) 0 ≡ r.digit = ap (λ k. digit (path k) 0) key_is ∙ ap (λ w. digit w 0) (sym c.path.ensures) ∙ sym c.digit.ensures.value ∙ c.if-digit-self.false in (
      put.root,
      put_each R path total exact r.newest.0 key value old new put r.digit here c.self.invariant.1,
      put_few R path total exact r.newest.0 key value old new put r.most (c.root_is_map.ensures.sorted old) c.self.invariant.2,
      c.writes_keep_stamps_below.ensures r.newest.0 (word_of path key) (nodes (word_of path) old) (nodes (word_of path) new) c.self.invariant.3 put.stamps,
    )
