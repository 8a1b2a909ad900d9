use Rattle.std.proofs.Common.{◌≡◌, ◌≢◌, ℕ, ◌<◌, get_or, length, rules, add-one}
use Rattle.std.proofs.lemmas.Bool.Decides.{nat_tests}
use Rattle.journal_lines.proofs.LineEnds.{first_ended, unended}
use Rattle.journal_lines.proofs.lines.bytes_in_line.Goals as goal

pub returns-in-Some-clause-line : goal.returns-in-Some-clause-line
returns-in-Some-clause-line c =
    let below : c.in-Some.place < length c.args.text.now = search rules in
    let others : (i : ℕ) → i < c.in-Some.place → get_or c.args.text.now i 0 ≢ 10 = search (rules, nat_tests) in
    let here : get_or c.args.text.now c.in-Some.place 0 ≡ 10 = search (rules, nat_tests) in
    rw add-one (first_ended c.args.text.now c.in-Some.place below others here)

pub returns-in-None-clause-line : goal.returns-in-None-clause-line
returns-in-None-clause-line c =
    let others : (i : ℕ) → i < length c.args.text.now → get_or c.args.text.now i 0 ≢ 10 = search (rules, nat_tests) in
    unended c.args.text.now c.requires others
