use Rattle.std.proofs.Common.{◌-◌, pos}
use Rattle.example_expiry.proofs.queries.stored_item.Goals as goal

pub new-requires : goal.new-requires
new-requires c = ((λ name lease. pos (lease.until - c.args.left.now)), λ name lease answer is. is)
