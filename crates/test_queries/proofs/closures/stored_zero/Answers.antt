use Rattle.test_queries.proofs.closures.stored_zero.Goals as goal

-- each new value is zero
pub new-requires : goal.new-requires
new-requires c = ((λ k v. 0), λ k v r is. is)
