use Rattle.std.proofs.Common.{◌≡◌, Ok, map}
use Rattle.reply_order.proofs.order.all_of.Given as goal

abbrev pub invariant-loop-out : goal.invariant-loop-out
invariant-loop-out l = map (λ replies. Ok replies) l.all.items ≡ l.yielded
