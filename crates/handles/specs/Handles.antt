-- The live handles, as a table has them.
use Rattle.std.specs.Prelude.{◌≡◌}
pub use Rattle.held_maps.specs.HeldMaps.{HeldMaps, IsKept, IsWithin, entries_of, live_from, map_in, maps_in, stamp_of, stamps_in, version_in}
use Rattle.handles.specs.Machine.{State}

-- the places have the maps of the state's live handles, and its limit on pairs
pub record AreThoseOf {K V Q : Type 0} (s : State K V Q) (places : HeldMaps K V) : Type 0 where
  pub same_live : places.live ≡ s.live
  pub same_limit : places.limit ≡ s.limits.pairs
