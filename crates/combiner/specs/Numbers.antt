-- Sums that wrap, and the least and the greatest of numbers.
use Rattle.std.specs.Prelude.{ℤ, Option, Some, None, FitsSigned}
use Rattle.std.specs.Int.{int_wrap, int_min, int_max, w64, w128}
use Rattle.std.proofs.Math.IntN.{◌+ℤ◌}

-- the sum of two numbers, wrapped to 128 bits
abbrev pub wrapped_sum : ℤ → ℤ → ℤ
wrapped_sum a b = int_wrap w128 (a +ℤ b)

-- a number of 64 bits
abbrev pub IsI64 : ℤ → Type 0
IsI64 a = FitsSigned w64 a

-- a number of 128 bits
abbrev pub IsI128 : ℤ → Type 0
IsI128 a = FitsSigned w128 a

-- the lesser of two numbers, where none is greater than any
abbrev pub lesser : Option ℤ → Option ℤ → Option ℤ
lesser None b = b
lesser (Some a) None = Some a
lesser (Some a) (Some b) = Some (int_min a b)

-- the greater of two numbers, where none is less than any
abbrev pub greater : Option ℤ → Option ℤ → Option ℤ
greater None b = b
greater (Some a) None = Some a
greater (Some a) (Some b) = Some (int_max a b)
