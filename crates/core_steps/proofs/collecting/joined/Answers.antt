use Rattle.std.proofs.Common.{◌≡◌, length, sym, subst, arith}
use Rattle.combiner.specs.Bulks.{Apart, IsJoined}
use Rattle.core_steps.proofs.Collections.{may_join_next, joined_next, joined_all, joined_none, Joined}
use Rattle.core_steps.proofs.collecting.joined.Goals as goal

pub join-requires : goal.join-requires
join-requires g c =
    let R = g.K.Ord.cmp in
    let answers = g.B.Bulk.answers c.args.bulk.now in
    let laws = c.parts_follow_intervals.ensures in
    let m = c.requires.0 in
    let job = c.requires.1 in
    ∣ subst (Apart R answers c.loop-worker_state.all) (sym c.part.ensures)
    (may_join_next R g.K.PathKey.path_of laws.map laws.apart laws.union answers m c.args.worker_states.now job c.loop-worker_state.worker_state-index c.worker_state-item.result c.loop-worker_state.all (omega arith) c.worker_state-item.is (c.loop-worker_state.invariant m job)) ∣₁

pub loop-worker_state-init : goal.loop-worker_state-init
loop-worker_state-init g c = λ m job.
    let laws = c.parts_follow_intervals.ensures in
    joined_none g.K.Ord.cmp g.K.PathKey.path_of laws.map laws.apart laws.union (g.B.Bulk.answers c.args.bulk.now) m c.args.worker_states.now job c.in_ok-all.all c.in_ok-all.ensures

pub loop-worker_state-preserved : goal.loop-worker_state-preserved
loop-worker_state-preserved g c = λ m job.
    let R = g.K.Ord.cmp in
    let answers = g.B.Bulk.answers c.args.bulk.now in
    let laws = c.parts_follow_intervals.ensures in
    joined_next R g.K.PathKey.path_of laws.map laws.apart laws.union answers m c.args.worker_states.now job c.loop-worker_state.worker_state-index c.worker_state-item.result c.loop-worker_state.all c.in_ok-next.next (omega arith) c.worker_state-item.is (c.loop-worker_state.invariant m job)
    (subst (λ p. IsJoined R answers c.loop-worker_state.all p c.in_ok-next.next) c.part.ensures c.in_ok-next.ensures)

pub returns : goal.returns
returns g c = λ m job.
    let answers = g.B.Bulk.answers c.args.bulk.now in
    let laws = c.parts_follow_intervals.ensures in
    let end : c.loop-worker_state.worker_state-index ≡ length c.args.worker_states.now = omega arith in
    joined_all g.K.Ord.cmp g.K.PathKey.path_of laws.map laws.apart laws.union answers m c.args.worker_states.now job c.loop-worker_state.all
    (subst (λ n. Joined g.K.PathKey.path_of answers m c.args.worker_states.now n c.loop-worker_state.all) end (c.loop-worker_state.invariant m job))
