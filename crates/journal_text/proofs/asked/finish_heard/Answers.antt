use Rattle.std.proofs.Common.{◌<◌, ◌^◌, ◌≡◌, rules}
use Rattle.journal_text.proofs.HeardLemmas.{a_number, no_number, heard_finish, unheard_finish}
use Rattle.journal_text.proofs.asked.finish_heard.Goals as goal

pub returns-in-Some : goal.returns-in-Some
returns-in-Some c =
    let fits : c.in-Some.job < 2 ^ 32 = search rules in
    let is = a_number c.args.number.now c.number_of.result c.in-Some.job c.in-Some.is c.number_of.ensures in
    let same : c.from.result ≡ c.in-Some.job = search rules in
    rw same (heard_finish c.args.number.now c.in-Some.job fits is)

pub returns-in-None : goal.returns-in-None
returns-in-None c = unheard_finish c.args.number.now (no_number c.args.number.now c.number_of.result c.in-None.is c.number_of.ensures)
