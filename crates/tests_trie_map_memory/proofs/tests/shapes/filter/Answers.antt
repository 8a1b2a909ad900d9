use Rattle.std.specs.Prelude.{◌%◌, ◌==◌}
use Rattle.tests_trie_map_memory.proofs.tests.shapes.filter.Goals as goal

pub new-requires : goal.new-requires
new-requires c = ((λ key value. value % 2 == 0), λ key value passes is. is)
