use Rattle.std.proofs.Common.{sym, subst}
use Rattle.bulk_ops.specs.Meanings.{MayAnswer}
use Rattle.trie_values.specs.Values.{AreGiven}
use Rattle.trie_shape.specs.Roots.{map_of}
use Rattle.trie_shape.specs.View.{tree}
use Rattle.closure_ops.proofs.new_values.NewValuesBulkIn.of_root.Goals as goal

pub returns : goal.returns
returns g c = record {
  limit = c.from_root.ensures.limit;
  given = subst (AreGiven (MayAnswer g.G.Fn c.args.self.now.change) (map_of g.K.Ord.cmp (tree c.args.root.now))) (sym c.from_root.ensures.entries) c.in_ok-made.ensures.given;
}
