-- To how many pairs a map may be limited.
use Rattle.std.specs.Prelude.{ℕ, min, max}
use Rattle.versions.specs.declared.version.TheConstants.{MOST_PAIRS}

-- the nearest limit to `most` that a map of so many pairs may have
abbrev pub limit_near : ℕ → ℕ → ℕ
limit_near most pairs = max 1 (max pairs (min most MOST_PAIRS))
