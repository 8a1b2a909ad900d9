use Rattle.std.proofs.Common.{map}
use Rattle.reply_order.proofs.Merging.{MergedTo}
use Rattle.reply_order.proofs.order.merged.Given as goal

abbrev pub invariant-loop-line : goal.invariant-loop-line
invariant-loop-line l = MergedTo l.lines (map (λ replies. replies.now) l.fn.starts.items) l.line-index (map (λ replies. replies.now) l.left.items) l.text.items
