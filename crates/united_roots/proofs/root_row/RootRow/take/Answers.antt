use Rattle.std.proofs.Common.{◌≡◌, ◌+◌, ◌≤◌, ◌<◌, ◌%◌, ◌^◌, length, map, Some, arith, sym, ap, ◌∙◌, subst}
use Rattle.std.proofs.lemmas.List.{length-map}
use Rattle.std.specs.Int.RustNames.{count_ones}
use Rattle.std.specs.List.{insert}
use Rattle.hash_path.specs.Digits.{fan_out}
use Rattle.trie_merging.specs.Merges.{child_at}
use Rattle.trie_shape.specs.Map.{union}
use Rattle.trie_shape.specs.Roots.{map_of}
use Rattle.trie_shape.specs.Tree.{entries}
use Rattle.trie_shape.specs.View.{tree}
use Rattle.trie_shape.proofs.Divides.{trie_fits}
use Rattle.trie_copy.proofs.Cases.{map_insert}
use Rattle.united_roots.specs.Rows.{NoneHasDigit, United}
use Rattle.united_roots.proofs.Taking.{child_below, child_few, row_place, row_size, takes_none, takes_some}
use Rattle.united_roots.proofs.root_row.RootRow.take.Goals as goal

pub invariant_of-self : goal.invariant_of-self
invariant_of-self g c =
    let r = c.self.inside in
    let a = c.args in
    let newer = c.newer-newest.result.0 in
    let mine : r.newest.0 ≤ newer = omega (arith, c.newer-newest.ensures) in
    let theirs : a.newest.0 ≤ newer = omega (arith, c.newer-newest.ensures) in
    let t = takes_none g.K.Ord.cmp g.K.PathKey.path_of g.met.K.Ord.total g.met.K.PathKey.exact g.met.K.PathKey.small a.digit (tree a.root.now) c.requires.root c.requires.each r.newest.0 r.pairs r.bitmap (map tree r.children.items) c.self.invariant.0 a.newest.0 newer mine theirs c.self.invariant.1 c.requires.newest c.in_default.ensures.child in
    (t.is_root, t.none_above)

pub returns-in_default-clause-entries : goal.returns-in_default-clause-entries
returns-in_default-clause-entries g c =
    let r = c.self.inside in
    let a = c.args in
    let newer = c.newer-newest.result.0 in
    let mine : r.newest.0 ≤ newer = omega (arith, c.newer-newest.ensures) in
    let theirs : a.newest.0 ≤ newer = omega (arith, c.newer-newest.ensures) in
    let t = takes_none g.K.Ord.cmp g.K.PathKey.path_of g.met.K.Ord.total g.met.K.PathKey.exact g.met.K.PathKey.small a.digit (tree a.root.now) c.requires.root c.requires.each r.newest.0 r.pairs r.bitmap (map tree r.children.items) c.self.invariant.0 a.newest.0 newer mine theirs c.self.invariant.1 c.requires.newest c.in_default.ensures.child in
    t.map ∙ ap (λ (h : United _ _). union g.K.Ord.cmp (map_of g.K.Ord.cmp (tree a.root.now)) h.entries) c.self.view_is

pub insert-requires : goal.insert-requires
insert-requires g c =
    let r = c.self.inside in
    let a = c.args in
    let none = subst (λ (h : United _ _). NoneHasDigit g.K.Ord.cmp g.K.PathKey.path_of a.digit h.entries) (sym c.self.view_is) c.requires.none in
    let below : a.digit < fan_out = c.in-Some.ensures.digit in
    omega (
      arith,
      c.place.ensures,
      length-map r.children.items tree,
      row_place g.K.Ord.cmp g.K.PathKey.path_of g.met.K.Ord.total g.met.K.PathKey.exact g.met.K.PathKey.small a.digit (tree a.root.now) c.requires.root c.requires.each r.newest.0 r.pairs r.bitmap (map tree r.children.items) c.self.invariant.0 below none,
    )

pub overflow_add-self : goal.overflow_add-self
overflow_add-self g c =
    let R = g.K.Ord.cmp in
    let path = g.K.PathKey.path_of in
    let r = c.self.inside in
    let a = c.args in
    let child = tree c.in_ok-child.child in
    let some : Some child ≡ child_at (tree a.root.now) a.digit = ap (λ t. Some t) c.in_ok-child.ensures ∙ c.in-Some.ensures.child in
    let known = child_below R path g.met.K.Ord.total g.met.K.PathKey.exact g.met.K.PathKey.small a.digit (tree a.root.now) c.requires.root c.requires.each r.newest.0 r.pairs r.bitmap (map tree r.children.items) c.self.invariant.0 child some in
    let more : c.size-more.result ≡ length (entries child) = c.size-more.ensures (trie_fits R path 1 child known.trie) in
    let few = child_few R path g.met.K.Ord.total g.met.K.PathKey.exact g.met.K.PathKey.small a.digit (tree a.root.now) c.requires.root c.requires.each r.newest.0 r.pairs r.bitmap (map tree r.children.items) c.self.invariant.0 child some in
    let size = row_size R path g.met.K.Ord.total g.met.K.PathKey.exact g.met.K.PathKey.small a.digit (tree a.root.now) c.requires.root c.requires.each r.newest.0 r.pairs r.bitmap (map tree r.children.items) c.self.invariant.0 in
    omega (arith, more, few, size, c.requires.room, ap (λ (h : United _ _). length h.entries) c.self.view_is)

pub invariant_of-self-2 : goal.invariant_of-self-2
invariant_of-self-2 g c =
    let R = g.K.Ord.cmp in
    let path = g.K.PathKey.path_of in
    let r = c.self.inside in
    let a = c.args in
    let newer = c.newer-newest.result.0 in
    let mine : r.newest.0 ≤ newer = omega (arith, c.newer-newest.ensures) in
    let theirs : a.newest.0 ≤ newer = omega (arith, c.newer-newest.ensures) in
    let none = subst (λ (h : United _ _). NoneHasDigit R path a.digit h.entries) (sym c.self.view_is) c.requires.none in
    let below : a.digit < fan_out = c.in-Some.ensures.digit in
    let child = tree c.in_ok-child.child in
    let some : Some child ≡ child_at (tree a.root.now) a.digit = ap (λ t. Some t) c.in_ok-child.ensures ∙ c.in-Some.ensures.child in
    let known = child_below R path g.met.K.Ord.total g.met.K.PathKey.exact g.met.K.PathKey.small a.digit (tree a.root.now) c.requires.root c.requires.each r.newest.0 r.pairs r.bitmap (map tree r.children.items) c.self.invariant.0 child some in
    let within : c.place.result ≤ length r.children.items = omega (
      arith,
      c.place.ensures,
      length-map r.children.items tree,
      row_place R path g.met.K.Ord.total g.met.K.PathKey.exact g.met.K.PathKey.small a.digit (tree a.root.now) c.requires.root c.requires.each r.newest.0 r.pairs r.bitmap (map tree r.children.items) c.self.invariant.0 below none,
    ) in
    let items : map tree c.insert.new.self.items ≡ insert (map tree r.children.items) (count_ones (r.bitmap % 2 ^ a.digit)) child = ap (map tree) c.in_ok-insert.ensures.items ∙ map_insert tree r.children.items c.place.result c.in_ok-child.child within ∙ ap (λ i. insert (map tree r.children.items) i child) c.place.ensures in
    let sized : r.pairs + c.size-more.result ≡ r.pairs + length (entries child) = ap (λ n. r.pairs + n) (c.size-more.ensures (trie_fits R path 1 child known.trie)) in
    let t = takes_some R path g.met.K.Ord.total g.met.K.PathKey.exact g.met.K.PathKey.small a.digit (tree a.root.now) c.requires.root c.requires.each r.newest.0 r.pairs r.bitmap (map tree r.children.items) c.self.invariant.0 a.newest.0 newer mine theirs c.self.invariant.1 c.requires.newest below child some none (map tree c.insert.new.self.items) items (r.pairs + c.size-more.result) sized in
    (t.is_root, t.none_above)

pub returns-clause-entries : goal.returns-clause-entries
returns-clause-entries g c =
    let R = g.K.Ord.cmp in
    let path = g.K.PathKey.path_of in
    let r = c.self.inside in
    let a = c.args in
    let newer = c.newer-newest.result.0 in
    let mine : r.newest.0 ≤ newer = omega (arith, c.newer-newest.ensures) in
    let theirs : a.newest.0 ≤ newer = omega (arith, c.newer-newest.ensures) in
    let none = subst (λ (h : United _ _). NoneHasDigit R path a.digit h.entries) (sym c.self.view_is) c.requires.none in
    let below : a.digit < fan_out = c.in-Some.ensures.digit in
    let child = tree c.in_ok-child.child in
    let some : Some child ≡ child_at (tree a.root.now) a.digit = ap (λ t. Some t) c.in_ok-child.ensures ∙ c.in-Some.ensures.child in
    let known = child_below R path g.met.K.Ord.total g.met.K.PathKey.exact g.met.K.PathKey.small a.digit (tree a.root.now) c.requires.root c.requires.each r.newest.0 r.pairs r.bitmap (map tree r.children.items) c.self.invariant.0 child some in
    let within : c.place.result ≤ length r.children.items = omega (
      arith,
      c.place.ensures,
      length-map r.children.items tree,
      row_place R path g.met.K.Ord.total g.met.K.PathKey.exact g.met.K.PathKey.small a.digit (tree a.root.now) c.requires.root c.requires.each r.newest.0 r.pairs r.bitmap (map tree r.children.items) c.self.invariant.0 below none,
    ) in
    let items : map tree c.insert.new.self.items ≡ insert (map tree r.children.items) (count_ones (r.bitmap % 2 ^ a.digit)) child = ap (map tree) c.in_ok-insert.ensures.items ∙ map_insert tree r.children.items c.place.result c.in_ok-child.child within ∙ ap (λ i. insert (map tree r.children.items) i child) c.place.ensures in
    let sized : r.pairs + c.size-more.result ≡ r.pairs + length (entries child) = ap (λ n. r.pairs + n) (c.size-more.ensures (trie_fits R path 1 child known.trie)) in
    let t = takes_some R path g.met.K.Ord.total g.met.K.PathKey.exact g.met.K.PathKey.small a.digit (tree a.root.now) c.requires.root c.requires.each r.newest.0 r.pairs r.bitmap (map tree r.children.items) c.self.invariant.0 a.newest.0 newer mine theirs c.self.invariant.1 c.requires.newest below child some none (map tree c.insert.new.self.items) items (r.pairs + c.size-more.result) sized in
    t.map ∙ ap (λ (h : United _ _). union R (map_of R (tree a.root.now)) h.entries) c.self.view_is
