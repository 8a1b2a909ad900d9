-- A few items as a list.
use Rattle.std.specs.Prelude.{◌<◌, List, [], ◌∷◌, length}
use Rattle.trie_filter.specs.declared.few.Few.{Few}
use Rattle.trie_filter.specs.declared.few.Few.TheVariants.{Nothing, One, More}

module _ {T : Type 0} where
  -- the items, in order
  abbrev pub items_of : Few T → List T
  items_of Nothing = []
  items_of (One x) = x ∷ []
  items_of (More xs) = xs.items

  -- a vector is there from the second item on
  abbrev pub IsFew : Few T → Type 0
  IsFew Nothing = Unit {0}
  IsFew (One x) = Unit {0}
  IsFew (More xs) = 1 < length xs.items
