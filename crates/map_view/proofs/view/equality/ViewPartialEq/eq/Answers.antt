use Rattle.std.proofs.Common.{sym, ◌∙◌}
use Rattle.map_view.specs.Questions.{same_pair}
use Rattle.trie_shape.specs.Order.{walked}
use Rattle.map_view.proofs.Equality.{apart_by_length}
use Rattle.map_view.proofs.view.equality.ViewPartialEq.eq.Goals as goal

pub returns-else-len : goal.returns-else-len
returns-else-len g c =
    apart_by_length (same_pair g.K.PartialEq.eq g.V.PartialEq.eq) (walked g.K.Ord.cmp g.K.PathKey.path_of c.args.self.now) (walked g.K.Ord.cmp g.K.PathKey.path_of c.args.other.now) c.len.result c.len-2.result
    (c.walk_lists_map.ensures.count c.args.self.now c.len.ensures.sorted ∙ sym c.len.ensures.count)
    (c.walk_lists_map.ensures.count c.args.other.now c.len-2.ensures.sorted ∙ sym c.len-2.ensures.count)
    c.if-len.false
