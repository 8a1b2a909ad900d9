use Rattle.std.proofs.Common.{◌≡◌, ◌+◌, ℕ, arith, rules, ap, sym, ◌∙◌}
use Rattle.std.proofs.lemmas.Str.{IsUtf8-string_bytes}
use Rattle.audit.proofs.EntryLemmas.{no_newline, no_line, no_seat, no_call, next_read, some_said, none_said}
use Rattle.audit.proofs.entry.is_next.Goals as goal

pub returns-in_default : goal.returns-in_default
returns-in_default c = no_newline c.args.table.now c.args.line.now c.in_default.ensures

pub returns-in_default-2 : goal.returns-in_default-2
returns-in_default-2 c =
    let at : c.from-number.result ≡ c.args.table.now.entries = search rules in
    no_line c.args.table.now c.args.line.now c.in-Some.bytes.now (c.from-number.result + 1) c.in-Some.ensures (ap (λ (n : ℕ). n + 1) at) (none_said _ _ c.in_ok-found.field-0 c.in_default-2.is c.in_ok-found.ensures)

pub returns-then-found-from : goal.returns-then-found-from
returns-then-found-from c =
    let at : c.from-number.result ≡ c.args.table.now.entries = search rules in
    no_seat c.args.table.now c.args.line.now c.in-Some.bytes.now _ _ (c.from-number.result + 1) c.in-Some-2.found.seat c.in-Some.ensures (ap (λ (n : ℕ). n + 1) at) (omega arith) (omega arith)
    (some_said _ _ c.in_ok-found.field-0 c.in-Some-2.found c.in-Some-2.is c.in_ok-found.ensures) (search rules)

pub returns-in_default-3 : goal.returns-in_default-3
returns-in_default-3 c =
    let at : c.from-number.result ≡ c.args.table.now.entries = search rules in
    no_call c.args.table.now c.args.line.now c.in-Some.bytes.now _ _ (c.from-number.result + 1) c.in-Some-2.found.seat c.in-Some.ensures (ap (λ (n : ℕ). n + 1) at) (omega arith) (omega arith)
    (some_said _ _ c.in_ok-found.field-0 c.in-Some-2.found c.in-Some-2.is c.in_ok-found.ensures)
    (rw (← c.as_bytes.ensures.value) (none_said _ _ c.in_ok-asked.field-0 c.in_default-3.is c.in_ok-asked.ensures))

pub returns : goal.returns
returns c =
    let at : c.from-number.result ≡ c.args.table.now.entries = search rules in
    let asked = some_said _ _ c.in_ok-asked.field-0 c.in-Some-3.asked c.in-Some-3.is c.in_ok-asked.ensures in
    next_read c.args.table.now _ c.args.line.now c.in-Some.bytes.now _ _ (c.from-number.result + 1) c.in-Some-2.found.seat _ c.judge.result c.in-Some.ensures (ap (λ (n : ℕ). n + 1) at) (omega arith) (omega arith)
    (some_said _ _ c.in_ok-found.field-0 c.in-Some-2.found c.in-Some-2.is c.in_ok-found.ensures)
    (IsUtf8-string_bytes c.in-Some-2.found.call) (IsUtf8-string_bytes c.in-Some-2.found.reply) asked.0 (sym c.as_bytes.ensures.value ∙ asked.1)
    (rw (← c.as_bytes-2.ensures.value) c.judge.ensures)
