-- A map that is put into the place of its target.
use Rattle.std.specs.Prelude.{◌≡◌, ◌≤◌, ◌<◌, ◌+◌, ℕ, Option, Some, None, length}
use Rattle.std.specs.Ordering.{nat_cmp}
use Rattle.versions.specs.Map.{Map, with_pair}
use Rattle.versions.specs.Contents.{Contents}
use Rattle.held_maps.specs.declared.limits.TheConstants.{HANDLES}

-- a target is the number of a place
abbrev pub IsPlace : Option ℕ → Type 0
IsPlace None = Unit {0}
IsPlace (Some to) = to < HANDLES

-- the live maps once the target, if there is one, has the map that was made
abbrev pub live_with_made : {K V : Type 0} → Map ℕ (Map K V) → Option ℕ → Option (Contents K V) → Map ℕ (Map K V)
live_with_made live (Some to) (Some v) = with_pair nat_cmp live to v.entries
live_with_made live target made = live

-- the stamps once the target, if there is one, has the map that was made, with this stamp
abbrev pub stamps_with_made : {K V : Type 0} → Map ℕ ℕ → ℕ → Option ℕ → Option (Contents K V) → Map ℕ ℕ
stamps_with_made stamps stamp (Some to) (Some v) = with_pair nat_cmp stamps to stamp
stamps_with_made stamps stamp target made = stamps

-- how many stamps were issued once the target, if there is one, has the map that was made
abbrev pub issued_with_made : {K V : Type 0} → ℕ → Option ℕ → Option (Contents K V) → ℕ
issued_with_made issued (Some to) (Some v) = issued + 1
issued_with_made issued target made = issued

-- what was made has no generation's stamp
abbrev pub IsLoose : {K V : Type 0} → Option (Contents K V) → Type 0
IsLoose None = Unit {0}
IsLoose (Some v) = v.stamp ≡ 0

-- what was made has at most `limit` pairs
abbrev pub FitsIn : {K V : Type 0} → ℕ → Option (Contents K V) → Type 0
FitsIn limit None = Unit {0}
FitsIn limit (Some v) = length v.entries ≤ limit
