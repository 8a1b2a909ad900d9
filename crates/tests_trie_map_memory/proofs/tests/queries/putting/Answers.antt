use Rattle.std.proofs.Common.{true}
use Rattle.tests_trie_map_memory.proofs.tests.queries.putting.Goals as goal

-- each pair passes
pub new-requires : goal.new-requires
new-requires g c = (λ key value. true, λ key value result passed. passed)
