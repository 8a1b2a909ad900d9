use Rattle.std.proofs.Common.{rules, ◌≡◌, ◌++◌, ◌∷◌, [], Some}
use Rattle.script.proofs.ReadLemmas.{read_more}
use Rattle.script.proofs.parse.parse_script.Goals as goal

pub loop-line-preserved-else-is_err : goal.loop-line-preserved-else-is_err
loop-line-preserved-else-is_err c =
    let ensures = rw c.in-Ok-Some.field-0-is at c.in-Ok-Some.ensures in
    let longer : c.push.new.self.items ≡ c.loop-line.lines.items ++ c.in-Ok-Some.line ∷ [] = search rules in
    rw longer (read_more c.args.text.now c.loop-line.number c.loop-line.lines.items c.loop-line.line-iterator.0.now c.in-Some.line.now c.next.new.self.0.now (Some c.in-Ok-Some.line)
    c.loop-line.invariant c.in-Some.ensures.steps ensures.ok ensures.few ensures.plain ensures.lawful)
