use Rattle.std.proofs.Common.{◌≡◌}
use Rattle.many_writes.proofs.puts.key_back.Given as goal

-- what is left is the same key
abbrev pub invariant-loop : goal.invariant-loop
invariant-loop g l = g.S.KeySlots.key_of l.key ≡ g.S.KeySlots.key_of l.fn.key
