-- Where a byte text keeps its bytes. No public clause cites this module.
use Rattle.std.specs.Prelude.{ℕ, ◌<◌, List, length}
use Rattle.keys.specs.declared.short.TheConstants.{MOST_IN_PLACE}
use Rattle.keys.specs.declared.text.Bytes.{Bytes}
use Rattle.keys.specs.declared.text.Bytes.TheVariants.{InPlace, Apart}

-- the bytes, whichever form
abbrev pub held : Bytes → List ℕ
held (InPlace short) = short
held (Apart vec) = vec.items

-- the bytes lie apart only where they are many
abbrev pub IsPlaced : Bytes → Type 0
IsPlaced (InPlace short) = Unit {0}
IsPlaced (Apart vec) = MOST_IN_PLACE < length vec.items
