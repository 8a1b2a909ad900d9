use Rattle.tests_trie_map_memory.proofs.tests.shapes.change.Goals as goal

pub new-requires : goal.new-requires
new-requires c = ((λ key value. value), λ key value given is. is)
