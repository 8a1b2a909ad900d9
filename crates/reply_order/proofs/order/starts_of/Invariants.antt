use Rattle.std.proofs.Common.{◌≡◌, map, take}
use Rattle.reply_order.proofs.order.starts_of.Given as goal

abbrev pub invariant-loop-replies : goal.invariant-loop-replies
invariant-loop-replies l = map (λ replies. replies.now) l.starts.items ≡ map (λ replies. replies.items) (take l.replies-index l.clients)
