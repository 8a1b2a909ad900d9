use Rattle.std.proofs.Common.{rules, ◌≡◌, ◌∷◌, length, arith}
use Rattle.std.specs.Vec.Iter.{into_iter_items}
use Rattle.task_pool.proofs.Balances.{apart_next, cover_short, worked_next}
use Rattle.task_pool.proofs.sequential.work_leftovers.Goals as goal

pub work_alone-requires-clause-apart : goal.work_alone-requires-clause-apart
work_alone-requires-clause-apart g c =
    let it : into_iter_items c.loop-task.task-iterator ≡ c.in-Some.task ∷ into_iter_items c.next.new.self = search rules in
    apart_next c.args.partial c.args.leftover.items c.loop-task.all (into_iter_items c.next.new.self) (into_iter_items c.loop-task.task-iterator) c.in-Some.task it c.loop-task.invariant.0 c.requires.apart

pub loop-task-preserved : goal.loop-task-preserved
loop-task-preserved g c =
    let it : into_iter_items c.loop-task.task-iterator ≡ c.in-Some.task ∷ into_iter_items c.next.new.self = search rules in (
      worked_next c.args.partial c.args.leftover.items c.loop-task.all c.in_ok-all.all (into_iter_items c.next.new.self) (into_iter_items c.loop-task.task-iterator) c.in-Some.task it c.loop-task.invariant.0 c.in_ok-all.ensures.did,
      λ was. c.in_ok-all.ensures.asked (c.loop-task.invariant.1 was),
    )

pub returns-clause-did : goal.returns-clause-did
returns-clause-did g c = λ p.
    let none : length (into_iter_items c.loop-task.task-iterator) ≡ 0 = search rules in
    omega (arith, c.loop-task.invariant.0 p, cover_short (into_iter_items c.loop-task.task-iterator) none p)
