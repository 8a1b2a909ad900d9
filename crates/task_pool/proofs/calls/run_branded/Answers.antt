use Rattle.std.proofs.Common.{map, subst}
use Rattle.std.specs.Prelude.{IfOk}
use Rattle.task_pool.specs.Reports.{IsReport}
use Rattle.task_pool.proofs.calls.run_branded.Goals as goal

-- the gate that the workers share is the caller's
pub returns : goal.returns
returns g c =
    subst (λ gate. IfOk c.run_started.result (λ report. IsReport g.K.PathKey.path_of (g.G.Gate.asked gate) (g.B.BulkIn.answers c.args.bulk.now) (g.B.BulkIn.decides c.args.bulk.now) g.C.OfView.map g.C.OfView.grain c.args.crew.workers report.part (map (λ list. list.items) report.lists.items)))
    c.new-shared.ensures.gate c.run_started.ensures
