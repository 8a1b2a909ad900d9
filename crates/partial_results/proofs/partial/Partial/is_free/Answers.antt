use Rattle.iter.specs.declared.interval.Interval.{Interval}
use Rattle.std.proofs.Common.{◌≡◌}
use Rattle.partial_results.proofs.Covering.{free_seen, on_true}
use Rattle.partial_results.proofs.partial.Partial.is_free.Goals as goal

pub returns : goal.returns
returns g c =
    let mine = c.self.invariant in
    let interval : Interval = record { lo = c.lo.result; hi = c.hi.result } in
    let is : interval ≡ c.args.task.now = λ k. record { lo = c.lo.ensures.lo k; hi = c.hi.ensures.hi k } in
    on_true c.is_free.result
    (free_seen c.args.self.now c.self.inside.worked.items c.self.inside.runs.items c.deref.result.now c.args.task.now interval c.self.view_is c.deref.ensures.value is mine.same mine.apart)
    c.is_free.ensures
