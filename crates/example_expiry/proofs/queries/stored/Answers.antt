use Rattle.example_expiry.specs.Leases.{passes}
use Rattle.example_expiry.proofs.queries.stored.Goals as goal

pub new-requires : goal.new-requires
new-requires c = ((λ name lease. passes c.args.at.now c.args.at.expired lease.until), λ name lease answer is. is)
