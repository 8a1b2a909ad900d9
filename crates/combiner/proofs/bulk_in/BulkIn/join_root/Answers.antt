use Rattle.trie_shape.specs.Roots.{map_of}
use Rattle.trie_shape.specs.View.{tree}
use Rattle.combiner.proofs.Additions.{can_join_made}
use Rattle.combiner.proofs.bulk_in.BulkIn.join_root.Goals as goal

pub join-requires : goal.join-requires
join-requires g c =
    can_join_made g.K.Ord.cmp (g.Self.BulkIn.answers c.args.self.now) c.args.part c.in-Some.made (map_of g.K.Ord.cmp (tree c.args.root.now)) (rw c.in-Some.is at c.in_ok-made.ensures) c.requires.apart
