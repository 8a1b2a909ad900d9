use Rattle.audit.proofs.ValueLemmas.{IsFollowed}
use Rattle.audit.proofs.values.values_in_reply.Given as goal

-- what was read, and what is left to read
abbrev pub invariant-loop-key : goal.invariant-loop-key
invariant-loop-key l = IsFollowed l.fn.map.entries l.fn.reply l.key-iterator l.values.entries l.left
