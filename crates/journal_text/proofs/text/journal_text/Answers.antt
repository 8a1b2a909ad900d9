use Rattle.std.proofs.Common.{◌≡◌, ◌++◌, ◌∷◌, [], Some, length, rules}
use Rattle.std.specs.List.{slice_get}
use Rattle.journal_lines.specs.Lines.{end_line}
use Rattle.journal_text.specs.Entries.{text_of_journal}
use Rattle.journal_text.proofs.TextLemmas.{lawful_at, more_text, last_text}
use Rattle.journal_text.proofs.text.journal_text.Goals as goal

pub push_entry-requires-clause-call : goal.push_entry-requires-clause-call
push_entry-requires-clause-call c =
    let is : slice_get c.args.journal.now c.loop-place.place ≡ Some c.in-Some.entry.now = search rules in
    (lawful_at c.args.journal.now c.loop-place.place c.in-Some.entry.now c.requires is).call_is_text

pub push_entry-requires-clause-reply : goal.push_entry-requires-clause-reply
push_entry-requires-clause-reply c =
    let is : slice_get c.args.journal.now c.loop-place.place ≡ Some c.in-Some.entry.now = search rules in
    (lawful_at c.args.journal.now c.loop-place.place c.in-Some.entry.now c.requires is).reply_is_text

pub loop-place-preserved : goal.loop-place-preserved
loop-place-preserved c =
    let is : slice_get c.args.journal.now c.loop-place.place ≡ Some c.in-Some.entry.now = search rules in
    more_text c.args.journal.now c.loop-place.place c.in-Some.entry.now c.loop-place.text.items c.push_entry.new.text.items (text_of_journal c.args.journal.now) is c.loop-place.invariant c.in_ok-push_entry.ensures

pub returns : goal.returns
returns c =
    let end : c.loop-place.place ≡ length c.args.journal.now = search rules in
    let len : c.len.result ≡ length c.args.journal.now = search rules in
    let bytes : c.as_bytes.result.now ≡ end_line c.len.result = search rules in
    let pushed : c.push.new.self.items ≡ (c.loop-place.text.items ++ c.as_bytes.result.now) ++ 10 ∷ [] = search rules in
    last_text c.args.journal.now c.loop-place.place c.len.result c.loop-place.text.items c.as_bytes.result.now c.push.new.self.items (text_of_journal c.args.journal.now) end len bytes pushed c.loop-place.invariant
