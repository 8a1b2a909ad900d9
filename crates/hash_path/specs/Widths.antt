-- How wide a path word and its digits are. Each number stands here once.
use Rattle.std.specs.Prelude.{ℕ, ◌-◌, ◌^◌}

-- how many bits a path word has
abbrev pub word_bits : ℕ
word_bits = 64

-- how many bits a digit has; a word's last digit has the bits that are left
abbrev pub digit_bits : ℕ
digit_bits = 5

-- how many digits a path word has
abbrev pub word_digits : ℕ
word_digits = 13

-- the level of the last digit: the deepest that a branch may be at
abbrev pub last_level : ℕ
last_level = word_digits - 1

-- how many digits there are at one level: a branch has at most that many children
abbrev pub fan_out : ℕ
fan_out = 2 ^ digit_bits
