use Rattle.std.proofs.Common.{◌≡◌, true, codes, rules, Some, None, string_bytes}
use Rattle.serde_json.specs.View.{view}
use Rattle.journal_lines.specs.Members.{number_at, text_at}
use Rattle.journal_lines.proofs.ReadLemmas.{unread_is_no_line, no_call, no_reply, no_seat, has_members}
use Rattle.journal_lines.proofs.line.members_in.Goals as goal

pub returns-else-is_memory : goal.returns-else-is_memory
returns-else-is_memory c = unread_is_no_line c.args.text.now (c.in-Err.ensures.err (λ m. let there : c.is_memory.result ≡ true = c.is_memory.ensures.1 m in cc))

pub returns-in_default : goal.returns-in_default
returns-in_default c =
    let none : text_at (codes "call") (view c.in-Ok.value) ≡ None = search rules in
    no_call c.args.text.now (view c.in-Ok.value) c.in-Ok.ensures.ok none

pub returns-in_default-text_at : goal.returns-in_default-text_at
returns-in_default-text_at c =
    let none : text_at (codes "reply") (view c.in-Ok.value) ≡ None = search rules in
    no_reply c.args.text.now (view c.in-Ok.value) c.in-Ok.ensures.ok none

pub returns-in_default-number_at : goal.returns-in_default-number_at
returns-in_default-number_at c =
    let none : number_at (codes "seat") (view c.in-Ok.value) ≡ None = search rules in
    no_seat c.args.text.now (view c.in-Ok.value) c.in-Ok.ensures.ok none

pub returns : goal.returns
returns c =
    let a : text_at (codes "call") (view c.in-Ok.value) ≡ Some (string_bytes c.in_ok-from_str.field-0) = search rules in
    let b : text_at (codes "reply") (view c.in-Ok.value) ≡ Some (string_bytes c.in_ok-from_str-2.field-0) = search rules in
    let e : number_at (codes "seat") (view c.in-Ok.value) ≡ Some c.in-Some-number_at.seat = search rules in
    has_members c.args.text.now (view c.in-Ok.value) (string_bytes c.in_ok-from_str.field-0) (string_bytes c.in_ok-from_str-2.field-0) c.in-Some-number_at.seat c.in-Ok.ensures.ok a b e
