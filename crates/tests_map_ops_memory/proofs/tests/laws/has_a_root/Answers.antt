use Rattle.std.proofs.Common.{[], refl}
use Rattle.tests_map_ops_memory.proofs.tests.laws.has_a_root.Goals as goal

pub returns : goal.returns
returns g c = (c.law_of_names.ensures []).1 refl
