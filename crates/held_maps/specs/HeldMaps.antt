-- The maps that are live under numbers, as they stand in their places.
use Rattle.std.specs.Prelude.{◌≡◌, ◌≤◌, ℕ, ◌+◌, List, [], ◌∷◌, Option, Some, None, option_map, map, length, slice_index_or}
use Rattle.versions.specs.Map.{Map}
use Rattle.versions.specs.Contents.{Contents}
use Rattle.held_maps.specs.declared.limits.TheConstants.{HANDLES}

-- the maps in the places, each under the number of its place, where the first has this number
abbrev pub live_from : {M : Type 0} → ℕ → List (Option M) → Map ℕ M
live_from n [] = []
live_from n (None ∷ places) = live_from (n + 1) places
live_from n (Some m ∷ places) = (n, m) ∷ live_from (n + 1) places

-- the map of a version
abbrev pub entries_of : {K V : Type 0} → Contents K V → Map K V
entries_of v = v.entries

-- the map in a place, if there is a version
abbrev pub map_in : {K V : Type 0} → Option (Contents K V) → Option (Map K V)
map_in place = option_map entries_of place

-- the maps in the places
abbrev pub maps_in : {K V : Type 0} → List (Option (Contents K V)) → List (Option (Map K V))
maps_in places = map map_in places

-- the stamp of a version
abbrev pub stamp_of : {K V : Type 0} → Contents K V → ℕ
stamp_of v = v.stamp

-- the stamps of the versions in the places
abbrev pub stamps_in : {K V : Type 0} → List (Option (Contents K V)) → List (Option ℕ)
stamps_in places = map (option_map stamp_of) places

-- the version in the place of a handle, if there is one
abbrev pub version_in : {K V : Type 0} → List (Option (Contents K V)) → ℕ → Option (Contents K V)
version_in places h = slice_index_or places h None

-- a version with this limit, and a stamp that was issued
pub record IsWithin {K V : Type 0} (limit issued : ℕ) (v : Contents K V) : Type 0 where
  pub same_limit : v.limit ≡ limit
  pub some_stamp : 1 ≤ v.stamp
  pub old_stamp : v.stamp ≤ issued

-- a place for each handle number; the versions in them have this limit, and stamps that were issued, no two of them the same
pub record IsKept {K V : Type 0} (limit issued : ℕ) (places : List (Option (Contents K V))) : Type 0 where
  pub count : length places ≡ HANDLES
  pub each : (h : ℕ) (v : Contents K V) → version_in places h ≡ Some v → IsWithin limit issued v
  pub apart : (h k : ℕ) (v w : Contents K V) → version_in places h ≡ Some v → version_in places k ≡ Some w → v.stamp ≡ w.stamp → h ≡ k

-- what contracts see of the places: the map of each live handle number, the limit of each map, how many stamps were issued, and the stamp of each live handle's version
pub record HeldMaps (K V : Type 0) : Type 0 where
  pub live : Map ℕ (Map K V)
  pub limit : ℕ
  pub issued : ℕ
  pub stamps : Map ℕ ℕ
