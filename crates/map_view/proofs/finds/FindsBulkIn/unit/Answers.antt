use Rattle.bulk_ops.specs.Meanings.{MayAnswer}
use Rattle.map_view.proofs.Finding.{none_found}
use Rattle.map_view.proofs.finds.FindsBulkIn.unit.Goals as goal

pub returns : goal.returns
returns g c = none_found (MayAnswer g.F.Fn c.args.self.now.test)
