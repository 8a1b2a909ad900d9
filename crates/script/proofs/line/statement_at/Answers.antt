use Rattle.script.proofs.VerbLemmas.{unread}
use Rattle.script.proofs.line.statement_at.Goals as goal

pub returns-in-Err-clause-err : goal.returns-in-Err-clause-err
returns-in-Err-clause-err c = rw c.in-Some.ensures.steps (unread c.in-Some.verb.now _ c.in-Err.ensures.cases.0)
