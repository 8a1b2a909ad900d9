use Rattle.std.proofs.Common.{◌≡◌, map, take}
use Rattle.std.specs.Sync.Mutex.{mutex_guard_value}
use Rattle.stripes.specs.Stripes.{digits_of, maps_of}
use Rattle.stripes.proofs.stripes.forks.Given as goal

abbrev pub invariant-loop-stripe : goal.invariant-loop-stripe
invariant-loop-stripe g l = record {
  digits : digits_of l.copies.items ≡ digits_of (map mutex_guard_value (take l.stripe-index l.held.items));
  maps : maps_of l.copies.items ≡ maps_of (map mutex_guard_value (take l.stripe-index l.held.items));
}
