use Rattle.std.proofs.Common.{◌∙◌}
use Rattle.many_writes.proofs.puts.key_back.Goals as goal

pub returns-in-Ok : goal.returns-in-Ok
returns-in-Ok g c = c.in-Ok.ensures.ok ∙ c.loop.invariant
