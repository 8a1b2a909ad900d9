-- What the cache keeps.
use Rattle.std.specs.Prelude.{ℕ, ◌*◌, ◌%◌}

-- the last three digits of the square of a number
abbrev pub square_ending : ℕ → ℕ
square_ending n = (n % 1000) * (n % 1000) % 1000
