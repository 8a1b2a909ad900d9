use Rattle.std.proofs.Common.{take}
use Rattle.tests_bulk_ops.proofs.tests.images.initials.Goals as goal

pub new-requires : goal.new-requires
new-requires c = ((λ k v. (take 1 k, v)), λ k v r is. is)
