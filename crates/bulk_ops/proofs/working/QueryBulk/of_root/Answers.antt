use Rattle.trie_shape.specs.Roots.{map_of}
use Rattle.trie_shape.specs.View.{tree}
use Rattle.bulk_ops.proofs.Shaped.{images_shaped, passing_shaped, values_shaped}
use Rattle.bulk_ops.proofs.working.QueryBulk.of_root.Goals as goal

-- the map of the pairs that pass is the query's part
pub returns-in_ok-passed-in-Filter : goal.returns-in_ok-passed-in-Filter
returns-in_ok-passed-in-Filter g c =
    let made = c.in_ok-passed-in-Filter in
    passing_shaped _ _ _ g.M.Monoid.combine g.M.Monoid.unit_of g.K.Ord.cmp c.args.self.now c.in-Filter.test c.in-Filter.field-1 (map_of g.K.Ord.cmp (tree c.args.root.now)) made.field-0 c.in-Filter.is
    made.ensures.entries made.ensures.limit made.ensures.stamp

-- the map of values is the query's part
pub returns-in_ok-changed-in-MapValues : goal.returns-in_ok-changed-in-MapValues
returns-in_ok-changed-in-MapValues g c =
    let made = c.in_ok-changed-in-MapValues in
    values_shaped _ _ _ g.M.Monoid.combine g.M.Monoid.unit_of g.K.Ord.cmp c.args.self.now c.in-MapValues.change c.in-MapValues.field-1 (map_of g.K.Ord.cmp (tree c.args.root.now)) made.field-0 c.in-MapValues.is
    made.ensures.entries made.ensures.limit made.ensures.stamp

-- the map of images is the query's part
pub returns-in_ok-map-in-MapPairs : goal.returns-in_ok-map-in-MapPairs
returns-in_ok-map-in-MapPairs g c =
    let made = c.in_ok-map-in-MapPairs in
    images_shaped _ _ _ g.M.Monoid.combine g.M.Monoid.unit_of g.K.Ord.cmp c.args.self.now c.in-MapPairs.change c.in-MapPairs.field-1 (map_of g.K.Ord.cmp (tree c.args.root.now)) made.map made.view c.in-MapPairs.is
    made.ensures.images made.ensures.limit made.ensures.stamp made.ensures.entries
