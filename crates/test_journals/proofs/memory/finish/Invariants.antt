use Rattle.test_journals.proofs.memory.finish.Given as goal

-- the part that was handed back answers the query of the ticket that was
abbrev pub invariant-loop-refused : goal.invariant-loop-refused
invariant-loop-refused g l = g.M.AnyMap.answers l.ticket l.part
