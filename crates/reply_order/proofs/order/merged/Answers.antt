use Rattle.std.proofs.Common.{rules, arith, ◌≡◌, ◌++◌, map}
use Rattle.script.specs.Replies.{line_text}
use Rattle.reply_order.proofs.Merging.{merged_none, merged_more, merged_all, next_left}
use Rattle.reply_order.proofs.order.merged.Goals as goal

pub loop-line-init : goal.loop-line-init
loop-line-init c = rw c.new-text.ensures.items (merged_none c.args.lines.now (map (λ replies. replies.now) c.args.starts.items) c.requires)

pub next_of-reply-requires-clause-some : goal.next_of-reply-requires-clause-some
next_of-reply-requires-clause-some c = next_left _ _ _ _ _ c.line-item.result (omega arith) c.line-item.is c.loop-line.invariant

pub loop-line-preserved : goal.loop-line-preserved
loop-line-preserved c =
    let line = c.line-item.result in
    let reply = c.next_of-reply.result.now in
    let text : c.push_line.new.out.items ≡ c.loop-line.text.items ++ line_text line.number reply = search rules in
    rw text (merged_more _ _ _ _ _ _ line reply (omega arith) c.line-item.is c.loop-line.invariant c.next_of-reply.ensures)

pub returns : goal.returns
returns c = merged_all _ _ c.loop-line.line-index _ _ (omega arith) c.loop-line.invariant
