use Rattle.std.proofs.Common.{rules, ap, ◌∙◌, arith}
use Rattle.std.proofs.lemmas.Result.{IfOk-weaker}
use Rattle.iter.specs.declared.interval.Interval.{Interval}
use Rattle.task_pool.proofs.Asked.{kept_at, kept_both}
use Rattle.task_pool.proofs.Halving.{Halved, halved, same, uncut}
use Rattle.task_pool.proofs.Balances.{ends_both, ends_pushed, ends_same, ok_both}
use Rattle.task_pool.proofs.worker.WorkerState.+process.Goals as goal

pub invariant_of-work_or_leave : goal.invariant_of-work_or_leave
invariant_of-work_or_leave g t c =
    record { whole = uncut g.K.PathKey.path_of g.C.OfView.map g.C.OfView.grain c.args.task c.in-Ok.lower c.in-Ok.rest c.in-None.is c.in-Ok.ensures }

pub returns-in-None-clause-same : goal.returns-in-None-clause-same
returns-in-None-clause-same g t c =
    IfOk-weaker c.work_or_leave.result _ _ (λ done is. (ap (λ e. e.place) is, ap (λ e. e.taken) is)) c.work_or_leave.ensures.same

pub returns-in-None-clause-did : goal.returns-in-None-clause-did
returns-in-None-clause-did g t c =
    let task = same g.K.PathKey.path_of g.C.OfView.map g.C.OfView.grain c.args.task c.in-Ok.lower c.in-Ok.rest c.in-None.is c.in-Ok.ensures in
    let self = c.args.self in
    IfOk-weaker c.work_or_leave.result _ _ (λ done is. ends_same self.partial done.partial self.ends.pushed done.ends.pushed self.leftover.items done.leftover.items c.args.task c.in-Ok.lower task (ap (λ e. e.pushed) is.0) is.1)
    (ok_both c.work_or_leave.result _ _ c.work_or_leave.ensures.same c.work_or_leave.ensures.did)

pub returns-in-Ok-push-clause-same : goal.returns-in-Ok-push-clause-same
returns-in-Ok-push-clause-same g t c =
    IfOk-weaker c.process.result _ _ (λ done is. (is.0 ∙ c.push.ensures.same.0, is.1 ∙ c.push.ensures.same.1)) c.process.ensures.same

pub returns-in-Ok-process-clause-same : goal.returns-in-Ok-process-clause-same
returns-in-Ok-process-clause-same g t c =
    let state = c.in-Ok-process in
    IfOk-weaker c.process-in-Ok-process.result _ _ (λ done is. (is.0 ∙ state.ensures.same.0 ∙ c.push.ensures.same.0, is.1 ∙ state.ensures.same.1 ∙ c.push.ensures.same.1)) c.process-in-Ok-process.ensures.same

pub process-requires : goal.process-requires
process-requires g t c κs within =
    let path = g.K.PathKey.path_of in
    let m = g.C.OfView.map in
    let grain = g.C.OfView.grain in
    let task = c.args.task in
    let lower = c.in-Ok.lower in
    let h : Halved task lower c.in-Some.upper = halved path c.law_of_cuts.ensures.divide m grain task lower c.in-Some.upper c.in-Ok.rest c.in-Some.is c.in-Ok.ensures in
    let short = h.first in
    (omega (arith, short, c.decreases), (search rules, (search rules, (search rules, (search rules, (search rules, (search rules, (search rules, (search rules, (search rules, (search rules, c.requires)))))))))))

pub process-requires-in-Err-push : goal.process-requires-in-Err-push
process-requires-in-Err-push g t c κs within =
    let path = g.K.PathKey.path_of in
    let m = g.C.OfView.map in
    let grain = g.C.OfView.grain in
    let task = c.args.task in
    let lower = c.in-Ok.lower in
    let h : Halved task lower c.in-Some.upper = halved path c.law_of_cuts.ensures.divide m grain task lower c.in-Some.upper c.in-Ok.rest c.in-Some.is c.in-Ok.ensures in
    let short = h.first in
    (omega (arith, short, c.decreases), (search rules, (search rules, (search rules, (search rules, (search rules, (search rules, (search rules, (search rules, (search rules, (search rules, c.requires)))))))))))

pub process-requires-in-Ok-process : goal.process-requires-in-Ok-process
process-requires-in-Ok-process g t c κs within =
    let path = g.K.PathKey.path_of in
    let m = g.C.OfView.map in
    let grain = g.C.OfView.grain in
    let task = c.args.task in
    let lower = c.in-Ok.lower in
    let h : Halved task lower c.in-Some.upper = halved path c.law_of_cuts.ensures.divide m grain task lower c.in-Some.upper c.in-Ok.rest c.in-Some.is c.in-Ok.ensures in
    let short = h.second in
    let lo = ap (λ (j : Interval). j.lo) c.in-Err-push.ensures.did.0 in
    let hi = ap (λ (j : Interval). j.hi) c.in-Err-push.ensures.did.0 in
    (omega (arith, short, lo, hi, c.decreases), (search rules, (search rules, (search rules, (search rules, (search rules, (search rules, (search rules, (search rules, (search rules, (search rules, c.requires)))))))))))

pub returns-in-Ok-push-clause-did : goal.returns-in-Ok-push-clause-did
returns-in-Ok-push-clause-did g t c =
    let path = g.K.PathKey.path_of in
    let m = g.C.OfView.map in
    let grain = g.C.OfView.grain in
    let task = c.args.task in
    let lower = c.in-Ok.lower in
    let self = c.args.self in
    let h : Halved task lower c.in-Some.upper = halved path c.law_of_cuts.ensures.divide m grain task lower c.in-Some.upper c.in-Ok.rest c.in-Some.is c.in-Ok.ensures in
    IfOk-weaker c.process.result _ _ (λ done is. ends_pushed self.partial done.partial self.ends.pushed c.push.new.self.pushed done.ends.pushed self.leftover.items done.leftover.items task lower c.in-Some.upper h c.in-Ok-push.ensures.did is) c.process.ensures.did

pub returns-in-Ok-process-clause-did : goal.returns-in-Ok-process-clause-did
returns-in-Ok-process-clause-did g t c =
    let path = g.K.PathKey.path_of in
    let m = g.C.OfView.map in
    let grain = g.C.OfView.grain in
    let task = c.args.task in
    let lower = c.in-Ok.lower in
    let self = c.args.self in
    let mid = c.in-Ok-process.state in
    let h : Halved task lower c.in-Some.upper = halved path c.law_of_cuts.ensures.divide m grain task lower c.in-Some.upper c.in-Ok.rest c.in-Some.is c.in-Ok.ensures in
    IfOk-weaker c.process-in-Ok-process.result _ _ (λ done is. ends_both self.partial mid.partial done.partial self.ends.pushed c.push.new.self.pushed mid.ends.pushed done.ends.pushed self.leftover.items mid.leftover.items done.leftover.items task lower c.in-Some.upper c.in-Err-push.upper h c.in-Err-push.ensures.did.0 c.in-Err-push.ensures.did.1 c.in-Ok-process.ensures.did is) c.process-in-Ok-process.ensures.did

pub returns-in-Ok-push-clause-asked : goal.returns-in-Ok-push-clause-asked
returns-in-Ok-push-clause-asked g t c =
    let Asked = g.G.Gate.asked c.args.shared.now.gate.now in
    IfOk-weaker c.process.result _ _ (λ done is. kept_at Asked _ _ _ _ c.push.ensures.same.0 is) c.process.ensures.asked

pub returns-in-Ok-process-clause-asked : goal.returns-in-Ok-process-clause-asked
returns-in-Ok-process-clause-asked g t c =
    let Asked = g.G.Gate.asked c.args.shared.now.gate.now in
    let state = c.in-Ok-process in
    let self = c.args.self in
    IfOk-weaker c.process-in-Ok-process.result _ _ (λ done is. kept_both Asked self.ends.place self.partial state.state.partial done.partial
    (kept_at Asked _ _ _ _ c.push.ensures.same.0 state.ensures.asked)
    (kept_at Asked _ _ _ _ (state.ensures.same.0 ∙ c.push.ensures.same.0) is)) c.process-in-Ok-process.ensures.asked
