use Rattle.std.proofs.Common.{take}
use Rattle.batch_cli.specs.Filing.{events_at}
use Rattle.script_runs.specs.Runs.{LinesMake, lines_by}
use Rattle.batch_cli.proofs.client.ScriptClientClientByteTextI64ScriptQuery.run.Given as goal

-- the seat has filed the events of its lines so far, and the replies are theirs
abbrev pub invariant-loop-line : goal.invariant-loop-line
invariant-loop-line g l = LinesMake (lines_by l.self.number (take l.line-index l.line-items)) (events_at l.seat) l.replies.items
