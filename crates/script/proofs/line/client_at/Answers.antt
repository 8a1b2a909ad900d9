use Rattle.std.proofs.Common.{arith}
use Rattle.script.proofs.FaultLemmas.{no_client}
use Rattle.script.proofs.line.client_at.Goals as goal

pub returns-in-Some-2-clause-err : goal.returns-in-Some-2-clause-err
returns-in-Some-2-clause-err c = no_client _ _ _ _ c.in-Some.ensures.steps c.in-Some-number_of.ensures c.if-n-lt-MOST_CLIENTS.false (omega arith)
