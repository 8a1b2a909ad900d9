use Rattle.trie_shape.specs.Roots.{map_of}
use Rattle.trie_shape.specs.View.{tree}
use Rattle.bulk_ops.proofs.Joins.{more_joined}
use Rattle.bulk_ops.proofs.PartKinds as kinds
use Rattle.bulk_ops.proofs.working.QueryBulk.join_root.Goals as goal

-- the part is one of images
pub lone_map-requires : goal.lone_map-requires
lone_map-requires g c =
    let here = map_of g.K.Ord.cmp (tree c.args.root.now) in
    kinds.pairs_map g.M.Monoid.combine g.M.Monoid.unit_of g.K.Ord.cmp c.args.self.now c.in-MapPairs.change c.in-MapPairs.field-1 c.args.part c.in-MapPairs.is
    (kinds.map_known g.M.Monoid.combine g.M.Monoid.unit_of g.K.Ord.cmp g.met.K.Ord.total here c.args.self.now c.args.part c.requires.apart)

-- there is room in it for the images of the root's pairs
pub more_images-requires-clause-room : goal.more_images-requires-clause-room
more_images-requires-clause-room g c =
    let here = map_of g.K.Ord.cmp (tree c.args.root.now) in
    (kinds.images_can g.M.Monoid.combine g.M.Monoid.unit_of g.K.Ord.cmp g.met.K.Ord.total here c.args.self.now c.in-MapPairs.change c.in-MapPairs.field-1 c.args.part c.lone_map.result c.lone_map.ensures.0 c.in-MapPairs.is c.lone_map.ensures.1 c.requires.apart).2

pub more_images-requires-clause-limit : goal.more_images-requires-clause-limit
more_images-requires-clause-limit g c =
    let here = map_of g.K.Ord.cmp (tree c.args.root.now) in
    (kinds.images_can g.M.Monoid.combine g.M.Monoid.unit_of g.K.Ord.cmp g.met.K.Ord.total here c.args.self.now c.in-MapPairs.change c.in-MapPairs.field-1 c.args.part c.lone_map.result c.lone_map.ensures.0 c.in-MapPairs.is c.lone_map.ensures.1 c.requires.apart).0

pub more_images-requires-clause-stamp : goal.more_images-requires-clause-stamp
more_images-requires-clause-stamp g c =
    let here = map_of g.K.Ord.cmp (tree c.args.root.now) in
    (kinds.images_can g.M.Monoid.combine g.M.Monoid.unit_of g.K.Ord.cmp g.met.K.Ord.total here c.args.self.now c.in-MapPairs.change c.in-MapPairs.field-1 c.args.part c.lone_map.result c.lone_map.ensures.0 c.in-MapPairs.is c.lone_map.ensures.1 c.requires.apart).1

-- the images of the root's pairs are beside those that the part had
pub returns-in_ok-map-in-MapPairs : goal.returns-in_ok-map-in-MapPairs
returns-in_ok-map-in-MapPairs g c =
    let here = map_of g.K.Ord.cmp (tree c.args.root.now) in
    let made = c.in_ok-map-in-MapPairs in
    more_joined g.M.Monoid.combine g.M.Monoid.unit_of g.K.Ord.cmp g.met.K.Ord.total c.args.self.now c.in-MapPairs.change c.in-MapPairs.field-1 c.args.part c.lone_map.result made.map c.lone_map.ensures.0 made.view here c.in-MapPairs.is c.lone_map.ensures.1
    made.ensures.images made.ensures.limit made.ensures.stamp made.ensures.entries

-- the part that was made of the root answers its map
pub joined-requires : goal.joined-requires
joined-requires g c =
    let here = map_of g.K.Ord.cmp (tree c.args.root.now) in
    kinds.made_joins g.M.Monoid.combine g.M.Monoid.unit_of g.K.Ord.cmp g.met.K.Ord.total here c.args.self.now c.args.part c.in-Ok-Some.made (rw c.in-Ok-Some.field-0-is at c.in-Ok-Some.ensures) c.requires.apart
