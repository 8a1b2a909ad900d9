-- The path words of integers, which are their own keys.
use Rattle.std.specs.Prelude.{ℕ, ℤ, ◌^◌, ◌<◌}
use Rattle.std.specs.Int.{Width, cast_unsigned, to_le_bytes}
use Rattle.hash_path.specs.Fnv.{fnv1a, fnv1a-below}
use Rattle.hash_path.specs.Widths.{word_bits}

-- the path word of a number of this width: the hash of its bytes, little-endian
abbrev pub bytes_path : Width → ℕ → ℕ
bytes_path width n = fnv1a (to_le_bytes width n)

-- that of a number with a sign: of its bytes in two's complement
abbrev pub signed_bytes_path : Width → ℤ → ℕ
signed_bytes_path width z = bytes_path width (cast_unsigned width z)

pub bytes_path-below : (width : Width) (n : ℕ) → bytes_path width n < 2 ^ word_bits
bytes_path-below width n = fnv1a-below (to_le_bytes width n)

pub signed_bytes_path-below : (width : Width) (z : ℤ) → signed_bytes_path width z < 2 ^ word_bits
signed_bytes_path-below width z = bytes_path-below width (cast_unsigned width z)
