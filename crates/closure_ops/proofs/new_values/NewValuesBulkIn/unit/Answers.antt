use Rattle.std.proofs.Common.{[], sym, subst}
use Rattle.bulk_ops.specs.Meanings.{MayAnswer}
use Rattle.trie_values.specs.Values.{AreGiven}
use Rattle.closure_ops.proofs.new_values.NewValuesBulkIn.unit.Goals as goal

pub returns : goal.returns
returns g c = record { limit = c.in_ok-none.ensures.limit; given = subst (AreGiven (MayAnswer g.G.Fn c.args.self.now.change) []) (sym c.in_ok-none.ensures.entries) tt }
