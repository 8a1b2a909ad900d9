-- The types of the two maps, as the logic names types.
use Rattle.std.specs.Borrow.{u64}
use Rattle.c_map.specs.contracts.map.Map as map
use Rattle.keys.specs.contracts.text.ByteText as text
use denote.RattleType.{RattleType}

-- a map from byte texts to numbers
abbrev pub numbers : RattleType
numbers = map.the_row u64

-- a map from byte texts to texts
abbrev pub texts : RattleType
texts = map.the_row text.the_row
