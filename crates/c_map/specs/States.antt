-- What map a state stands for.
use Rattle.std.specs.Prelude.{◌≤◌, []}
use Rattle.versions.specs.declared.version.TheConstants.{MOST_PAIRS}
use Rattle.c_map.specs.Stored.{Stored}
use Rattle.c_map.specs.declared.map.State.{State}
use Rattle.c_map.specs.declared.map.State.TheVariants.{Unwritten, Written}

module _ {V : Type 0} where
  -- a map that was not written yet has no pairs
  abbrev pub stored : State V → Stored V
  stored (Unwritten limit) = record { entries = []; limit = limit }
  stored (Written version) = record { entries = version.entries; limit = version.limit }

  -- it has a limit all the same
  abbrev pub IsLimited : State V → Type 0
  IsLimited (Unwritten limit) = (1 ≤ limit) × (limit ≤ MOST_PAIRS)
  IsLimited (Written version) = Unit {0}
