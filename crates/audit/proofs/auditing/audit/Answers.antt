use Rattle.std.proofs.Common.{◌≡◌, ◌<◌, ◌+◌, ◌^◌, Bool, true, false, arith, rules, subst}
use Rattle.audit.specs.Reading.{HasRead}
use Rattle.audit.proofs.Read.{entry_read, is_legal, line_spoils, end_is_wanting, more_spoils}
use Rattle.audit.proofs.Loop.{none_next, is_next, other_line}
use Rattle.audit.proofs.auditing.audit.Goals as goal

pub returns-then-over : goal.returns-then-over
returns-then-over c =
    let at : c.from-entries.result ≡ c.loop-line.table.entries = search rules in
    let few : c.loop-line.table.entries < 2 ^ 32 = omega arith in
    let h = subst (λ (b : Bool). HasRead c.args.text.now b c.loop-line.table c.loop-line.line-iterator.0.now) c.if-over.true c.loop-line.invariant in
    more_spoils c.args.text.now c.loop-line.table c.loop-line.line-iterator.0.now c.in-Some.line.now c.next.new.self.0.now (c.from-entries.result + 2) few (omega arith) h c.in-Some.ensures.steps

pub returns-then-not-branch : goal.returns-then-not-branch
returns-then-not-branch c =
    let at : c.from-entries.result ≡ c.loop-line.table.entries = search rules in
    let few : c.loop-line.table.entries < 2 ^ 32 = omega arith in
    let h = subst (λ (b : Bool). HasRead c.args.text.now b c.loop-line.table c.loop-line.line-iterator.0.now) c.if-over.false c.loop-line.invariant in
    let refused : c.in_ok-is_next.field-0 ≡ false = search rules in
    let last = other_line c.in_ok-is_end.field-0 _ c.if-branch.false c.in_ok-is_end.ensures in
    line_spoils c.args.text.now c.loop-line.table c.loop-line.line-iterator.0.now c.in-Some.line.now c.next.new.self.0.now (c.from-entries.result + 1) few (omega arith) h c.in-Some.ensures.steps
    (none_next c.in_ok-is_next.field-0 c.loop-line.table c.is_next.new.table c.in-Some.line.now refused c.in_ok-is_next.ensures)
    (rw at at last)

pub loop-line-preserved : goal.loop-line-preserved
loop-line-preserved c =
    let h = subst (λ (b : Bool). HasRead c.args.text.now b c.loop-line.table c.loop-line.line-iterator.0.now) c.if-over.false c.loop-line.invariant in
    let taken : c.in_ok-is_next.field-0 ≡ true = search rules in
    let read = entry_read c.args.text.now c.loop-line.table c.is_next.new.table c.loop-line.line-iterator.0.now c.in-Some.line.now c.next.new.self.0.now h c.in-Some.ensures.steps
    (is_next c.in_ok-is_next.field-0 c.loop-line.table c.is_next.new.table c.in-Some.line.now taken c.in_ok-is_next.ensures) in
    rw c.if-over.false read

pub returns-then-over-2 : goal.returns-then-over-2
returns-then-over-2 c =
    let at : c.from-entries-2.result ≡ c.loop-line.table.entries = search rules in
    let h = subst (λ (b : Bool). HasRead c.args.text.now b c.loop-line.table c.loop-line.line-iterator.0.now) c.if-over-2.true c.loop-line.invariant in
    rw at (is_legal c.args.text.now c.loop-line.table c.loop-line.line-iterator.0.now h c.in-None.ensures.steps.0)

pub returns : goal.returns
returns c =
    let at : c.from-entries-2.result ≡ c.loop-line.table.entries = search rules in
    let few : c.loop-line.table.entries < 2 ^ 32 = omega arith in
    let h = subst (λ (b : Bool). HasRead c.args.text.now b c.loop-line.table c.loop-line.line-iterator.0.now) c.if-over-2.false c.loop-line.invariant in
    end_is_wanting c.args.text.now c.loop-line.table c.loop-line.line-iterator.0.now (c.from-entries-2.result + 1) few (omega arith) h c.in-None.ensures.steps.0
