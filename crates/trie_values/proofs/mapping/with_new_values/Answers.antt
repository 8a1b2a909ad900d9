use Rattle.std.proofs.Common.{[]}
use Rattle.trie_shape.specs.Roots.{map_of, word_of}
use Rattle.trie_shape.specs.View.{tree}
use Rattle.trie_values.specs.Values.{MayAnswer}
use Rattle.trie_values.proofs.Given.{exact_values}
use Rattle.trie_values.proofs.Roots.{length_made, map_made, none_above, root_made, stamps_made}
use Rattle.trie_values.proofs.mapping.with_new_values.Goals as goal

pub returns-clause-root : goal.returns-clause-root
returns-clause-root g c =
    root_made (MayAnswer g.F.Fn c.args.change.now) c.args.stamp.0 g.K.Ord.cmp g.K.PathKey.path_of g.met.K.Ord.total g.met.K.PathKey.exact g.met.K.PathKey.small
    (tree c.args.root.now) (tree c.in_ok-made.made) c.in_ok-made.ensures c.requires.root

pub returns-clause-given : goal.returns-clause-given
returns-clause-given g c =
    map_made (MayAnswer g.F.Fn c.args.change.now) c.args.stamp.0 g.K.Ord.cmp g.K.PathKey.path_of g.met.K.Ord.total g.met.K.PathKey.exact
    (tree c.args.root.now) (tree c.in_ok-made.made) c.in_ok-made.ensures

pub returns-clause-map : goal.returns-clause-map
returns-clause-map g c f means =
    let R = g.K.Ord.cmp in
    let gives = MayAnswer g.F.Fn c.args.change.now in
    exact_values gives f means (map_of R (tree c.args.root.now)) (map_of R (tree c.in_ok-made.made))
    (map_made gives c.args.stamp.0 R g.K.PathKey.path_of g.met.K.Ord.total g.met.K.PathKey.exact (tree c.args.root.now) (tree c.in_ok-made.made) c.in_ok-made.ensures)

pub returns-clause-count : goal.returns-clause-count
returns-clause-count g c =
    length_made (MayAnswer g.F.Fn c.args.change.now) c.args.stamp.0 g.K.Ord.cmp g.K.PathKey.path_of g.met.K.Ord.total g.met.K.PathKey.exact
    (tree c.args.root.now) (tree c.in_ok-made.made) c.in_ok-made.ensures

pub returns-clause-stamps : goal.returns-clause-stamps
returns-clause-stamps g c =
    stamps_made (MayAnswer g.F.Fn c.args.change.now) c.args.stamp.0 (word_of g.K.PathKey.path_of) [] (tree c.args.root.now) (tree c.in_ok-made.made) c.in_ok-made.ensures

pub returns-clause-newest : goal.returns-clause-newest
returns-clause-newest g c =
    none_above (MayAnswer g.F.Fn c.args.change.now) c.args.stamp.0 (word_of g.K.PathKey.path_of) (tree c.args.root.now) (tree c.in_ok-made.made) c.in_ok-made.ensures
