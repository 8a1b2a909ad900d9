use Rattle.std.proofs.Common.{◌≡◌, ◌≤◌, ◌-◌, ℕ, length, [], None}
use Rattle.held_maps.specs.HeldMaps.{live_from, maps_in, stamps_in, version_in}
use Rattle.held_maps.proofs.places.Places.new.Given as goal

abbrev pub invariant-places : goal.invariant-places
invariant-places g l = record {
  live : live_from 0 (maps_in l.versions.items) ≡ [];
  stamps : live_from 0 (stamps_in l.versions.items) ≡ [];
  count : length l.versions.items ≤ 1024;
  none : (h : ℕ) → version_in l.versions.items h ≡ None;
}

abbrev pub decreases-places : goal.decreases-places
decreases-places g l = 1024 - length l.versions.items
