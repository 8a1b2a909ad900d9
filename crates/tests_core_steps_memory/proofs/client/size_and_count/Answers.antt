use Rattle.std.proofs.Common.{length, ap, sym, ◌∙◌}
use Rattle.handles.specs.Machine.{held_by}
use Rattle.tests_core_steps_memory.proofs.Sizes.{returned_here, size_here, same_here, size_is_returned, tells_count, count_is}
use Rattle.tests_core_steps_memory.proofs.client.size_and_count.Goals as goal

pub count_in-requires : goal.count_in-requires
count_in-requires g c =
    let m = held_by c.size_of.new.core.state.machine c.args.handle in
    let a = c.in-Some-2.answer in
    let so = returned_here g.Q.Asks.answered c.args.query.value m c.in_ok-answer.field-0 a c.in-Some-2.is c.in_ok-answer.ensures in
    tells_count a (length m) (size_is_returned g.Q.Asks.answered c.args.query.value m a c.requires.asks so)

pub returns-in-Some-2-clause-size : goal.returns-in-Some-2-clause-size
returns-in-Some-2-clause-size g c = size_here (length (held_by c.args.core.now.state.machine c.args.handle)) c.in_ok-size.field-0 c.in-Some.size c.in-Some.is c.in_ok-size.ensures.size

pub returns-in-Some-2-clause-count : goal.returns-in-Some-2-clause-count
returns-in-Some-2-clause-count g c =
    let before = held_by c.args.core.now.state.machine c.args.handle in
    let m = held_by c.size_of.new.core.state.machine c.args.handle in
    let a = c.in-Some-2.answer in
    let so = returned_here g.Q.Asks.answered c.args.query.value m c.in_ok-answer.field-0 a c.in-Some-2.is c.in_ok-answer.ensures in
    let returned = size_is_returned g.Q.Asks.answered c.args.query.value m a c.requires.asks so in
    let same = same_here m before c.in_ok-size.field-0 c.in-Some.size c.in-Some.is c.in_ok-size.ensures.map in
    let size = size_here (length before) c.in_ok-size.field-0 c.in-Some.size c.in-Some.is c.in_ok-size.ensures.size in
    count_is a c.count_in.result (length m) c.count_in.ensures returned ∙ ap length same ∙ sym size
