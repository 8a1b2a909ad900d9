use Rattle.std.proofs.Common.{rules, ◌≡◌, true, false, sym, subst, arith}
use Rattle.versions.specs.Map.{Map}
use Rattle.combiner.specs.Unions.{IsWithin}
use Rattle.combiner.specs.Bulks.{Apart, IsJoined}
use Rattle.core_steps.proofs.Collections.{lasting_whole, may_join_unit, joined_unit, decided_here, undecided_upto}
use Rattle.core_steps.proofs.DueSteps.{at_err}
use Rattle.core_steps.proofs.collecting.settled_part.Goals as goal

pub join-requires : goal.join-requires
join-requires g c =
    let R = g.K.Ord.cmp in
    let path = g.K.PathKey.path_of in
    let answers = g.B.Bulk.answers c.args.bulk.now in
    let laws = c.parts_follow_intervals.ensures in
    let m = c.requires.0 in
    let job = c.requires.1 in
    let d = c.worker_state-item.result in
    let yes : c.settled-decided.result ≡ true = search rules in
    let lasting = subst (λ (p : g.row.B-Part.Denot). (k l : Map g.row.K.Denot g.row.V.Denot) → answers k p → IsWithin k l → answers l p) c.part-part.ensures (c.settled-decided.ensures.lasting yes) in
    let whole = lasting_whole R path laws.map laws.apart laws.union answers m c.args.worker_states.now job c.loop-worker_state.worker_state-index d (omega arith) c.worker_state-item.is lasting in
    ∣ subst (Apart R answers c.in_ok-unit.unit) (sym c.part-part.ensures) (may_join_unit R path laws.map laws.apart laws.union answers m c.args.worker_states.now job c.in_ok-unit.unit d.part c.in_ok-unit.ensures whole) ∣₁

pub returns-then-decided-clause-part : goal.returns-then-decided-clause-part
returns-then-decided-clause-part g c = λ m job.
    let R = g.K.Ord.cmp in
    let path = g.K.PathKey.path_of in
    let answers = g.B.Bulk.answers c.args.bulk.now in
    let decides = g.B.Bulk.decides c.args.bulk.now in
    let laws = c.parts_follow_intervals.ensures in
    let yes : c.settled-decided.result ≡ true = search rules in
    let d = c.worker_state-item.result in
    let n = c.loop-worker_state.worker_state-index in
    let lasting = subst (λ (p : g.row.B-Part.Denot). (k l : Map g.row.K.Denot g.row.V.Denot) → answers k p → IsWithin k l → answers l p) c.part-part.ensures (c.settled-decided.ensures.lasting yes) in
    let whole = lasting_whole R path laws.map laws.apart laws.union answers m c.args.worker_states.now job n d (omega arith) c.worker_state-item.is lasting in
    let join = subst (λ (p : g.row.B-Part.Denot). IsJoined R answers c.in_ok-unit.unit p c.in_ok-both.both) c.part-part.ensures c.in_ok-both.ensures in (
      joined_unit R path laws.map laws.apart laws.union answers m c.args.worker_states.now job c.in_ok-unit.unit d.part c.in_ok-both.both c.in_ok-unit.ensures whole join,
      (n, omega arith, decided_here R path laws.map laws.apart laws.union answers m c.args.worker_states.now job decides c.settled-decided.result n d c.part-part.result.now (omega arith) c.worker_state-item.is c.part-part.ensures c.settled-decided.ensures.exact yes),
    )

pub loop-worker_state-preserved : goal.loop-worker_state-preserved
loop-worker_state-preserved g c = λ m job.
    let laws = c.parts_follow_intervals.ensures in
    let no : c.settled-decided.result ≡ false = search rules in
    undecided_upto g.K.Ord.cmp g.K.PathKey.path_of laws.map laws.apart laws.union (g.B.Bulk.answers c.args.bulk.now) m c.args.worker_states.now job (g.B.Bulk.decides c.args.bulk.now) c.settled-decided.result c.loop-worker_state.worker_state-index c.worker_state-item.result c.part-part.result.now
    (omega arith) c.worker_state-item.is c.part-part.ensures c.settled-decided.ensures.exact no (c.loop-worker_state.invariant m job)

pub returns-clause-part : goal.returns-clause-part
returns-clause-part g c = λ m job some. c.loop-worker_state.invariant m job some.0 (omega (arith, some.1)) some.2

pub returns-in_err-unit-clause-wanting : goal.returns-in_err-unit-clause-wanting
returns-in_err-unit-clause-wanting g c =
    let R = g.K.Ord.cmp in
    let path = g.K.PathKey.path_of in
    let answers = g.B.Bulk.answers c.args.bulk.now in
    let decides = g.B.Bulk.decides c.args.bulk.now in
    let laws = c.parts_follow_intervals.ensures in
    let yes : c.settled-decided.result ≡ true = search rules in
    let d = c.worker_state-item.result in
    let n = c.loop-worker_state.worker_state-index in
    at_err c.from_residual.result
    (λ m job.
    (n, omega arith, decided_here R path laws.map laws.apart laws.union answers m c.args.worker_states.now job decides c.settled-decided.result n d c.part-part.result.now (omega arith) c.worker_state-item.is c.part-part.ensures c.settled-decided.ensures.exact yes))

pub returns-in_err-both-clause-wanting : goal.returns-in_err-both-clause-wanting
returns-in_err-both-clause-wanting g c =
    let R = g.K.Ord.cmp in
    let path = g.K.PathKey.path_of in
    let answers = g.B.Bulk.answers c.args.bulk.now in
    let decides = g.B.Bulk.decides c.args.bulk.now in
    let laws = c.parts_follow_intervals.ensures in
    let yes : c.settled-decided.result ≡ true = search rules in
    let d = c.worker_state-item.result in
    let n = c.loop-worker_state.worker_state-index in
    at_err c.from_residual-in_err-both.result
    (λ m job.
    (n, omega arith, decided_here R path laws.map laws.apart laws.union answers m c.args.worker_states.now job decides c.settled-decided.result n d c.part-part.result.now (omega arith) c.worker_state-item.is c.part-part.ensures c.settled-decided.ensures.exact yes))
