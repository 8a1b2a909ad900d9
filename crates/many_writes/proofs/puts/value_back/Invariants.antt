use Rattle.std.proofs.Common.{◌≡◌}
use Rattle.many_writes.proofs.puts.value_back.Given as goal

-- what is left is the same value
abbrev pub invariant-loop : goal.invariant-loop
invariant-loop g l = g.S.ValueSlots.value_of l.value ≡ g.S.ValueSlots.value_of l.fn.value
