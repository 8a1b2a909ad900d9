use Rattle.std.proofs.Common.{sym, subst}
use Rattle.bulk_ops.specs.Meanings.{MayAnswer}
use Rattle.trie_filter.specs.Passing.{AreChosen}
use Rattle.trie_shape.specs.Roots.{map_of}
use Rattle.trie_shape.specs.View.{tree}
use Rattle.closure_ops.proofs.filters.FiltersBulkIn.of_root.Goals as goal

pub returns : goal.returns
returns g c = record {
  limit = c.from_root.ensures.limit;
  chosen = subst (AreChosen (MayAnswer g.F.Fn c.args.self.now.test) (map_of g.K.Ord.cmp (tree c.args.root.now))) (sym c.from_root.ensures.entries) c.in_ok-made.ensures.chosen;
}
