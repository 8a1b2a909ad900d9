use Rattle.tests_bulk_ops.proofs.tests.images.refused_at.Goals as goal

pub new-requires : goal.new-requires
new-requires c = ((λ k v. (k, v)), λ k v r is. is)
