use Rattle.std.proofs.Common.{[], ◌∷◌, pos}
use Rattle.tests_bulk_ops.proofs.tests.images.one_key.Goals as goal

pub new-requires : goal.new-requires
new-requires c = ((λ k v. (122 ∷ [], pos 7)), λ k v r is. is)
