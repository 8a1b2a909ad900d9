use Rattle.std.proofs.Common.{◌<◌, ◌^◌, rules}
use Rattle.journal_text.proofs.HeardLemmas.{a_number, no_number, heard_view, unheard_view}
use Rattle.journal_text.proofs.asked.view_heard.Goals as goal

pub returns-in-Some : goal.returns-in-Some
returns-in-Some c =
    let fits : c.in-Some.handle < 2 ^ 32 = search rules in
    let is = a_number c.args.number.now c.number_of.result c.in-Some.handle c.in-Some.is c.number_of.ensures in
    heard_view c.args.number.now c.in-Some.handle fits is

pub returns-in-None : goal.returns-in-None
returns-in-None c = unheard_view c.args.number.now (no_number c.args.number.now c.number_of.result c.in-None.is c.number_of.ensures)
