use Rattle.std.specs.Prelude.{nat_le}
use Rattle.example_cache.proofs.ages.stored.Goals as goal

pub new-requires : goal.new-requires
new-requires c = ((λ number entry. nat_le c.args.since.0 entry.second), λ number entry answer is. is)
