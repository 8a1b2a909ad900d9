use Rattle.std.proofs.Common.{◌≡◌, ◌++◌}
use Rattle.handles.specs.Machine.{Run}
use Rattle.handles.specs.Views.{requests_of, outcomes_of, machine}
use Rattle.handles.proofs.table.Table.run.Given as goal

-- the answers so far are those of a run of the calls so far, and the other calls are still to come
abbrev pub invariant-loop-call : goal.invariant-loop-call
invariant-loop-call g l = record {
  run : Run (machine g.K.Ord.cmp g.V.PartialEq.eq g.Q.Asks.target_of g.Q.Asks.answered) l.fn.self (requests_of l.yielded) (outcomes_of l.answers.items) l.self;
  split : l.fn.calls.items ≡ l.yielded ++ l.call-iterator.rest.items;
}
