use Rattle.std.proofs.Common.{pos}
use Rattle.test_queries.proofs.closures.stored_values.Goals as goal

-- each item is the pair's value
pub new-requires : goal.new-requires
new-requires c = ((λ k v. pos v), λ k v r is. is)
