use Rattle.std.proofs.Common.{rules, ◌≡◌, ◌≢◌, ◌≤◌, length, arith, ◌∷◌, ◌++◌, [], ap}
use Rattle.batch_cli.specs.Filing.{ProgramSeat}
use Rattle.batch_cli.proofs.Lines.{all_made, line_made, line_passed, none_make}
use Rattle.batch_cli.proofs.client.ScriptClientClientByteTextI64ScriptQuery.run.Goals.{then-line-self+in_ok-answer+in_ok-push, else-line-self}
use Rattle.batch_cli.proofs.client.ScriptClientClientByteTextI64ScriptQuery.run.Goals as goal

pub loop-line-init : goal.loop-line-init
loop-line-init g c =
    let empty : c.args.seat.now.list ≡ [] = ap (λ (s : ProgramSeat). s.list) c.requires.fresh in
    rw (empty, c.new-replies.ensures.items) none_make

pub loop-line-preserved : goal.loop-line-preserved
loop-line-preserved g c =
    let self = c.args.self in
    let line = c.line-item.result in
    elim c.if-line-self.branch [
      | then-line-self+in_ok-answer+in_ok-push w ↦
          let mine : line.client ≡ self.number = search rules in
          let new : w.push.new.self.items ≡ c.loop-line.replies.items ++ w.in_ok-answer.field-0 ∷ [] = search rules in
          rw (w.seat-is, w.replies-is) (line_made self.number self.lines.now c.loop-line.line-index line c.loop-line.seat w.answer.new.seat c.loop-line.replies.items w.push.new.self.items w.in_ok-answer.field-0 c.loop-line-test.true c.line-item.is mine c.loop-line.invariant w.in_ok-answer.ensures new)
      | else-line-self w ↦
          let other : line.client ≢ self.number = search rules in
          rw (w.seat-is, w.replies-is) (line_passed self.number self.lines.now c.loop-line.line-index line c.loop-line.seat c.loop-line.replies.items c.loop-line-test.true c.line-item.is other c.loop-line.invariant)
    ]

pub returns : goal.returns
returns g c =
    let self = c.args.self in
    let end : length self.lines.now ≤ c.loop-line.line-index = omega (arith, c.loop-line-test.false) in
    record { gives = all_made self.number self.lines.now c.loop-line.line-index c.loop-line.seat c.loop-line.replies.items end c.loop-line.invariant }
