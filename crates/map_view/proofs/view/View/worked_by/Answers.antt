use Rattle.std.proofs.Common.{subst}
use Rattle.map_view.proofs.view.View.worked_by.Goals as goal

pub returns : goal.returns
returns g c = subst (λ m. g.B.BulkIn.answers c.args.bulk.now m c.in_ok-report.report.part) c.self.view_is c.in_ok-report.ensures.answered
