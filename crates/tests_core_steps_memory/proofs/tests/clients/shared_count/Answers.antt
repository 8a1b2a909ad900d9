use Rattle.std.proofs.Common.{rules, ◌≡◌}
use Rattle.tests_core_steps_memory.proofs.tests.clients.shared_count.Goals as goal

pub returns-clause-asks : goal.returns-clause-asks
returns-clause-asks g c =
    let same : c.expect.result.value ≡ c.count_of_all.result = search rules in
    rw same c.count_of_all.ensures.asks
