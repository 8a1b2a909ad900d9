use Rattle.tests_locked_map_memory.proofs.tests.freeing.query_of.Goals as goal

-- the closure means one number
pub new-requires : goal.new-requires
new-requires c = ((λ k v. 1), λ k v r is. is)
