use Rattle.std.proofs.Common.{◌≡◌, ◌≤◌, List, length}
use Rattle.script.specs.declared.statement.CommandLine.{CommandLine}
use Rattle.task_pool.specs.declared.crew.Crew.{Crew}
use Rattle.batch_cli.proofs.RunOf.{AreClients}
use Rattle.batch_cli.proofs.run.clients_of.Given as goal

abbrev pub invariant-loop-number : goal.invariant-loop-number
invariant-loop-number g l = (length l.clients.items ≡ l.number) × (l.number ≤ l.count) × AreClients {A = List CommandLine × Crew} (λ client. client.number) (λ client. (client.lines.now, client.crew)) (l.lines, l.crew) l.clients.items
