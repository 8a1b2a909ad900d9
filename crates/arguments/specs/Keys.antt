-- Which byte texts are keys of a script.
use Rattle.std.specs.Prelude.{ℕ, ◌<◌, ◌≤◌, List, length, All}
use Rattle.arguments.specs.declared.key.TheConstants.{MOST_KEY_BYTES}

-- 1 to 64 bytes, each from 0x21 to 0x7e
abbrev pub IsKey : List ℕ → Type 0
IsKey bytes = (0 < length bytes) × (length bytes ≤ MOST_KEY_BYTES) × All (λ b. (33 ≤ b) × (b ≤ 126)) bytes
