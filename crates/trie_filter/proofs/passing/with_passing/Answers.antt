use Rattle.std.proofs.Common.{◌≡◌, ◌≤◌, map, arith}
use Rattle.std.proofs.lemmas.List.Elements.{All-weaker}
use Rattle.trie_shape.specs.Roots.{map_of, word_of}
use Rattle.trie_shape.specs.Shape.{nodes}
use Rattle.trie_shape.specs.View.{tree}
use Rattle.trie_shape.proofs.Roots.{root_is_trie, trie_is_root}
use Rattle.trie_filter.specs.Few.{items_of}
use Rattle.trie_values.specs.Values.{MayAnswer}
use Rattle.trie_filter.proofs.Chosen.{exact_chosen, length_chosen}
use Rattle.trie_filter.proofs.Left.{map_left, pairs_depth, root_left, row_counted, stamps_left}
use Rattle.trie_filter.proofs.passing.with_passing.Goals as goal

pub pass_children-requires-clause-trie : goal.pass_children-requires-clause-trie
pass_children-requires-clause-trie g c = root_is_trie g.K.Ord.cmp g.K.PathKey.path_of g.met.K.Ord.total g.met.K.PathKey.exact g.met.K.PathKey.small (tree c.args.root.now) c.requires.root

pub into_branch-requires : goal.into_branch-requires
into_branch-requires g c =
    let row = c.in_ok-row-in-Branch.row in
    row_counted g.K.Ord.cmp g.K.PathKey.path_of g.met.K.Ord.total g.met.K.PathKey.exact (MayAnswer g.F.Fn c.args.test.now) 0 c.args.stamp.0 _ row.bitmap row.size (items_of row.children) c.in_ok-row-in-Branch.ensures.row

pub unreachable-requires : goal.unreachable-requires
unreachable-requires g c =
    let R = g.K.Ord.cmp in
    let path = g.K.PathKey.path_of in
    let total = g.met.K.Ord.total in
    let exact = g.met.K.PathKey.exact in
    let old = tree c.args.root.now in
    pairs_depth R path total exact old c.in-Pairs.field-0 c.in-Pairs.ensures (root_is_trie R path total exact g.met.K.PathKey.small old c.requires.root)

pub returns-clause-root : goal.returns-clause-root
returns-clause-root g c =
    let R = g.K.Ord.cmp in
    let path = g.K.PathKey.path_of in
    let total = g.met.K.Ord.total in
    let exact = g.met.K.PathKey.exact in
    let row = c.in_ok-row-in-Branch.row in
    let new = tree c.in_ok-made-in-Branch.made in
    trie_is_root R path total exact g.met.K.PathKey.small new
    (root_left R path total exact (MayAnswer g.F.Fn c.args.test.now) c.args.stamp.0 (tree c.args.root.now) new row.bitmap row.size (map tree (items_of row.children)) c.in_ok-row-in-Branch.ensures.row c.in_ok-made-in-Branch.ensures)

pub returns-clause-chosen : goal.returns-clause-chosen
returns-clause-chosen g c =
    let R = g.K.Ord.cmp in
    let path = g.K.PathKey.path_of in
    let total = g.met.K.Ord.total in
    let exact = g.met.K.PathKey.exact in
    let row = c.in_ok-row-in-Branch.row in
    let old = tree c.args.root.now in
    map_left R path total exact (MayAnswer g.F.Fn c.args.test.now) c.args.stamp.0 old (tree c.in_ok-made-in-Branch.made) row.bitmap row.size (map tree (items_of row.children))
    (root_is_trie R path total exact g.met.K.PathKey.small old c.requires.root) c.in_ok-row-in-Branch.ensures.row c.in_ok-made-in-Branch.ensures

pub returns-clause-map : goal.returns-clause-map
returns-clause-map g c p means =
    let R = g.K.Ord.cmp in
    exact_chosen (MayAnswer g.F.Fn c.args.test.now) p means (map_of R (tree c.args.root.now)) (map_of R (tree c.in_ok-made-in-Branch.made)) (returns-clause-chosen g c)

pub returns-clause-count : goal.returns-clause-count
returns-clause-count g c =
    let R = g.K.Ord.cmp in
    length_chosen (MayAnswer g.F.Fn c.args.test.now) (map_of R (tree c.args.root.now)) (map_of R (tree c.in_ok-made-in-Branch.made)) (returns-clause-chosen g c)

pub returns-clause-stamps : goal.returns-clause-stamps
returns-clause-stamps g c =
    let row = c.in_ok-row-in-Branch.row in
    stamps_left g.K.Ord.cmp g.K.PathKey.path_of g.met.K.Ord.total g.met.K.PathKey.exact (MayAnswer g.F.Fn c.args.test.now) c.args.stamp.0 (tree c.args.root.now) (tree c.in_ok-made-in-Branch.made)
    row.bitmap row.size (map tree (items_of row.children)) c.in_ok-row-in-Branch.ensures.row c.in_ok-made-in-Branch.ensures

pub returns-clause-newest : goal.returns-clause-newest
returns-clause-newest g c =
    All-weaker (λ n. n.1 ≡ c.args.stamp.0) (λ n. n.1 ≤ c.args.stamp.0) (λ n is. omega (arith, is)) (nodes (word_of g.K.PathKey.path_of) (tree c.in_ok-made-in-Branch.made)) (returns-clause-stamps g c)
