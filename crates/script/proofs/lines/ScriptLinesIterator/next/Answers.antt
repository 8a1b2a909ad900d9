use Rattle.std.proofs.Common.{arith, rules, ◌≡◌, ◌∷◌, length, ap}
use Rattle.std.proofs.lemmas.Bool.Decides.{nat_tests}
use Rattle.script.specs.Lines.{lines_of}
use Rattle.script.proofs.LineLemmas.{next_line}
use Rattle.script.proofs.lines.ScriptLinesIterator.next.Goals as goal

pub returns-clause-steps : goal.returns-clause-steps
returns-clause-steps c =
    next_line _ _ _ _ _ c.bytes_before_newline.ensures.within c.bytes_before_newline.ensures.bytes c.bytes_before_newline.ensures.end (grind (arith, nat_tests)) c.split_at.ensures.front c.split_at.ensures.back c.without_first-self.ensures

pub returns-clause-goes : goal.returns-clause-goes
returns-clause-goes c =
    let steps : lines_of c.args.self.now.0.now ≡ c.split_at.result.0.now ∷ lines_of c.without_first-self.result.now = next_line _ _ _ _ _ c.bytes_before_newline.ensures.within c.bytes_before_newline.ensures.bytes c.bytes_before_newline.ensures.end (grind (arith, nat_tests)) c.split_at.ensures.front c.split_at.ensures.back c.without_first-self.ensures in
    let fewer : length (lines_of c.args.self.now.0.now) ≡ length (c.split_at.result.0.now ∷ lines_of c.without_first-self.result.now) = ap length steps in
    search (rules, fewer)
