use Rattle.std.specs.Prelude.{◌==◌}
use Rattle.tests_trie_map_memory.proofs.tests.crews.equal_to.Goals as goal

pub new-requires : goal.new-requires
new-requires c = ((λ key value. value == c.args.value), λ key value passes is. is)
