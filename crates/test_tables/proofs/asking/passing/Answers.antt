use Rattle.std.proofs.Common.{◌&&◌}
use Rattle.std.specs.Prelude.{int_le}
use Rattle.test_tables.proofs.asking.passing.Goals as goal

pub new-requires : goal.new-requires
new-requires c = ((λ k v. int_le c.args.test.0 v && int_le v c.args.test.1), λ k v r is. is)
