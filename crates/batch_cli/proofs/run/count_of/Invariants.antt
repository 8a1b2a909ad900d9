use Rattle.std.proofs.Common.{◌<◌, ◌≤◌, take}
use Rattle.std.specs.Prelude.{All}
use Rattle.batch_cli.proofs.run.count_of.Given as goal

-- the clients of the lines so far are below the count, which is at most 64
abbrev pub invariant-loop-line : goal.invariant-loop-line
invariant-loop-line l = All (λ line. line.client < l.count) (take l.line-index l.lines) × (l.count ≤ 64)
