use Rattle.std.proofs.Common.{pos}
use Rattle.tests_bulk_ops.proofs.tests.instead.Goals as goal

pub new-requires : goal.new-requires
new-requires c = ((λ k v. pos c.args.value), λ k v r is. is)
