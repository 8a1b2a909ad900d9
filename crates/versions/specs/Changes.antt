-- What a write of one key leaves, where it was done and where it was not.
use Rattle.std.specs.Prelude.{◌≡◌, ℕ, Bool, true, false, List}
use Rattle.trie_shape.specs.Shape.{Nodes, Restamps}

-- a write that was done puts the stamp on the nodes of the word's path, and one that was not leaves all nodes
abbrev pub RestampsIf : Bool → ℕ → List ℕ → Nodes → Nodes → Type 0
RestampsIf true stamp word old new = Restamps stamp word old new
RestampsIf false stamp word old new = new ≡ old
