use Rattle.handles.specs.Machine.{held_by}
use Rattle.tests_core_steps_memory.proofs.Sizes.{only_here, returned_of_only}
use Rattle.tests_core_steps_memory.proofs.client.answer_of.Goals as goal

pub returns : goal.returns
returns g c =
    let q = c.args.query.value in
    let m = held_by c.args.core.now.state.machine c.args.handle in
    let j = c.in-Some.job in
    let opened = only_here c.opened.new.core.state.machine (record { query = q; frozen = m }) c.in_ok-job.field-0 j c.in-Some.is c.in_ok-job.ensures in
    returned_of_only g.Q.Asks.answered q m c.make_all.new.core.state.machine j c.finished.result (c.make_all.ensures j (record { query = q; frozen = m }) opened) c.finished.ensures
