use Rattle.std.proofs.Common.{◌≡◌, List, ◌++◌, ◌∷◌, [], Option, None, sym, subst, ap, ◌∙◌, length}
use Rattle.iter.specs.declared.interval.Interval.{Interval}
use Rattle.iter.specs.Intervals.{part}
use Rattle.splitter.specs.Portion.{Portion}
use Rattle.worker_states.specs.Boards.{MoveResult, done}
use Rattle.worker_states.specs.WorkerValues.{WorkerValue, CanWork, WorksHeld, HasWorked}
use Rattle.worker_states.proofs.Workings.{may_join, has_worked}
use Rattle.worker_states.proofs.working.work_held.Goals as goal

pub join-requires : goal.join-requires
join-requires g c =
    let R = g.K.Ord.cmp in
    let path = g.K.PathKey.path_of in
    let answers = g.B.Bulk.answers c.args.bulk.now in
    let laws = c.parts_follow_intervals.ensures in
    let m = c.requires.map.0 in
    let can = subst (CanWork R path answers m) (sym c.worker_state.view_is) c.requires.map.1 in
    ∣ may_join R path laws.one laws.map laws.apart laws.union answers m _ c.in-Some.piece c.in_ok-made.made can c.in-Some.is c.in_ok-made.ensures ∣₁

pub returns-clause-ok : goal.returns-clause-ok
returns-clause-ok g c m can =
    let R = g.K.Ord.cmp in
    let path = g.K.PathKey.path_of in
    let answers = g.B.Bulk.answers c.args.bulk.now in
    let decides = g.B.Bulk.decides c.args.bulk.now in
    let laws = c.parts_follow_intervals.ensures in
    let p = c.in-Some.piece in
    let d : WorkerValue g.row.K.Denot g.row.V.Denot g.row.B-Part.Denot = record { queue = c.worker_state.inside.queue.items; held = c.worker_state.inside.held; part = c.worker_state.inside.part; worked = c.worker_state.inside.worked.items } in
    let settled = c.settled-settled.result in
    let joined = c.in_ok-joined.joined in
    let here : CanWork R path answers m d = subst (CanWork R path answers m) (sym c.worker_state.view_is) can in
    let works = has_worked R path laws.one laws.map laws.apart laws.union answers m d p c.in_ok-made.made here c.in-Some.is c.in_ok-made.ensures decides joined settled c.in_ok-joined.ensures c.settled-settled.ensures.exact in
    let told : done p.interval.lo p.interval.hi (length (part path p.map p.interval)) settled ≡ done c.lo.result c.hi.result c.len.result settled =
    λ i. done (sym c.lo.ensures.lo i) (sym c.hi.ensures.hi i) (sym c.len.ensures i) settled in
    let interval : p.interval ≡ record { lo = c.lo.result; hi = c.hi.result } = λ i. record { lo = sym c.lo.ensures.lo i; hi = sym c.hi.ensures.hi i } in
    let worked : d.worked ++ p.interval ∷ [] ≡ c.push.new.self.items = ap (λ j. d.worked ++ j ∷ []) interval ∙ sym c.in_ok-push.ensures.items in
    let so_told = subst (λ (y : MoveResult). HasWorked R path answers m decides d p y (record d { held = None; part = joined; worked = d.worked ++ p.interval ∷ [] })) told works in
    let all = subst (λ (ws : List Interval). HasWorked R path answers m decides d p (done c.lo.result c.hi.result c.len.result settled) (record d { held = None; part = joined; worked = ws })) worked so_told in
    let after : WorkerValue g.row.K.Denot g.row.V.Denot g.row.B-Part.Denot = record d { held = None; part = joined; worked = c.push.new.self.items } in
    let of_held = subst (λ (o : Option (Portion g.row.K.Denot g.row.V.Denot)). WorksHeld R path answers m decides d o (done c.lo.result c.hi.result c.len.result settled) after) (sym c.in-Some.is) all in
    subst (λ (x : WorkerValue g.row.K.Denot g.row.V.Denot g.row.B-Part.Denot). WorksHeld R path answers m decides x x.held (done c.lo.result c.hi.result c.len.result settled) after) c.worker_state.view_is of_held
