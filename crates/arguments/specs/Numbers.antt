-- How the spelling of a number begins.
use Rattle.std.specs.Prelude.{◌≡◌, ◌≢◌, ℕ, ◌<◌, ◌≤◌, List, length, drop, slice_index}

-- a digit stands first, which is 0 only if it is alone
pub record StartsNumber (bytes : List ℕ) : Type 0 where
  pub some : 0 < length bytes
  pub least : 48 ≤ slice_index bytes 0
  pub most : slice_index bytes 0 ≤ 57
  pub alone : slice_index bytes 0 ≡ 48 → length bytes ≡ 1

-- a minus stands first, and a number behind it that is not 0
pub record StartsNegative (bytes : List ℕ) : Type 0 where
  pub minus : slice_index bytes 0 ≡ 45
  pub number : StartsNumber (drop 1 bytes)
  pub other : slice_index (drop 1 bytes) 0 ≢ 48
