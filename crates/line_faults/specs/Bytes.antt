-- The bytes of a script's lines.
use Rattle.std.specs.Prelude.{ℕ, Bool, ◌&&◌, not, nat_le}

-- whether no line may have the byte, since it is outside 0x20 to 0x7e
abbrev pub is_bad_byte : ℕ → Bool
is_bad_byte b = not (nat_le 32 b && nat_le b 126)
