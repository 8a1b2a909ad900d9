use Rattle.std.proofs.Common.{◌≡◌, map, length, sym, ap, ◌∙◌}
use Rattle.std.proofs.lemmas.List.{length-map}
use Rattle.trie_shape.specs.Tree.{bucket}
use Rattle.trie_shape.specs.View.{pair_values}
use Rattle.trie_copy.proofs.Words.{put_only}
use Rattle.trie_copy.proofs.put.replace_value.Goals as goal

pub returns-then-pairs-eq1 : goal.returns-then-pairs-eq1
returns-then-pairs-eq1 g c =
    let a = c.args in
    let one : length (map pair_values a.pairs.now) ≡ 1 = length-map a.pairs.now pair_values ∙ c.if-pairs-eq1.true in
    let same = put_only g.K.Ord.cmp g.K.PathKey.path_of g.met.K.Ord.total g.met.K.PathKey.exact a.entry.pair.0 a.entry.pair.1 (map pair_values a.pairs.now) one c.requires.present in
    c.make_leaf.ensures ∙ ap (bucket a.entry.stamp.0) (sym same)
