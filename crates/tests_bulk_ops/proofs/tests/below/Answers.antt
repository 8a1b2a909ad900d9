use Rattle.std.proofs.Common.{nat_lt}
use Rattle.tests_bulk_ops.proofs.tests.below.Goals as goal

pub new-requires : goal.new-requires
new-requires c = ((λ k v. nat_lt k.id c.args.id), λ k v r is. is)
