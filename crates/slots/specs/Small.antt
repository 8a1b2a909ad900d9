-- What lies in a row takes little room.
use Rattle.std.specs.Prelude.{◌≤◌}
use prog.Memory.{size, align}
use denote.Memory.{lone}
use denote.RattleType.{RattleType}

-- a value takes 64 bytes at most, and lies at multiples of 16 at most
abbrev pub IsSmall : RattleType → Type 0
IsSmall R = (size (lone R.mir) ≤ 64) × (align (lone R.mir) ≤ 16)

-- a value takes 32 bytes at most
abbrev pub IsHalf : RattleType → Type 0
IsHalf R = size (lone R.mir) ≤ 32

-- a value takes 16 bytes at most
abbrev pub IsQuarter : RattleType → Type 0
IsQuarter R = size (lone R.mir) ≤ 16
