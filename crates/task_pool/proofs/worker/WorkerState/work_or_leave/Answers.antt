use Rattle.std.proofs.Common.{◌≡◌, ◌<◌, ◌^◌, sym, subst, ◌∙◌}
use Rattle.task_pool.proofs.Asked.{kept_one}
use Rattle.task_pool.proofs.worker.WorkerState.work_or_leave.Goals as goal

pub returns-clause-asked : goal.returns-clause-asked
returns-clause-asked g c =
    let Asked = g.G.Gate.asked c.args.shared.now.gate.now in
    let place = c.args.self.ends.place in
    let number = c.number_of-number.result in
    let named : place < 2 ^ 32 → number ≡ place = λ small. c.number_of-number.ensures (subst (λ p. p < 2 ^ 32) (sym c.place.ensures) small) ∙ c.place.ensures in
    kept_one Asked place number c.args.uncut.task c.args.self.partial c.in-Ok.partial c.in-Ok.ensures named
    (subst (Asked number) (λ i. record { lo = c.lo.ensures.lo i; hi = c.hi.ensures.hi i }) c.before-2.ensures)
