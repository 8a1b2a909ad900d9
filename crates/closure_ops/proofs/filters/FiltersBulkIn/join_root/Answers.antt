use Rattle.bulk_ops.specs.Meanings.{MayAnswer}
use Rattle.closure_ops.specs.Parts.{IsFiltered}
use Rattle.trie_shape.specs.Roots.{map_of}
use Rattle.trie_shape.specs.View.{tree}
use Rattle.closure_ops.proofs.Joining.{can_join_part}
use Rattle.closure_ops.proofs.filters.FiltersBulkIn.join_root.Goals as goal

pub join-all-requires : goal.join-all-requires
join-all-requires g c =
    can_join_part g.K.Ord.cmp (IsFiltered (MayAnswer g.F.Fn c.args.self.now.test)) c.args.part c.in-Ok-Some.made (map_of g.K.Ord.cmp (tree c.args.root.now)) (rw c.in-Ok-Some.field-0-is at c.in-Ok-Some.ensures) c.requires.apart

pub returns-in_ok-all-in-Ok-Some : goal.returns-in_ok-all-in-Ok-Some
returns-in_ok-all-in-Ok-Some g c m is apart =
    c.in_ok-all-in-Ok-Some.ensures m (map_of g.K.Ord.cmp (tree c.args.root.now)) is (rw c.in-Ok-Some.field-0-is at c.in-Ok-Some.ensures) apart
