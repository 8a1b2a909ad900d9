use Rattle.handles.specs.Views.{asked_of}
use Rattle.journal_text.proofs.HeardLemmas.{a_statement, heard_freeze, no_statement, unheard_freeze}
use Rattle.journal_text.proofs.asked.freeze_heard.Goals as goal

pub returns-in_ok-request_of-in-Some : goal.returns-in_ok-request_of-in-Some
returns-in_ok-request_of-in-Some c =
    let there = a_statement c.args.question.now c.in_ok-statement.field-0 c.in-Some.statement c.in-Some.is c.in_ok-statement.ensures in
    heard_freeze c.args.question.now c.in-Some.statement (asked_of c.in_ok-request_of-in-Some.field-0) there.0 there.1 c.in_ok-request_of-in-Some.ensures.request

pub returns-in-None : goal.returns-in-None
returns-in-None c = unheard_freeze c.args.question.now (no_statement c.args.question.now c.in_ok-statement.field-0 c.in-None.is c.in_ok-statement.ensures)
