use Rattle.std.proofs.Common.{◌≤◌, ◌*◌, drop, length, map}
use Rattle.std.specs.Sync.Mutex.{mutex_guard_value}
use Rattle.stripe.specs.declared.stripe.TheConstants.{MOST_PAIRS_OF_STRIPE}
use Rattle.stripes.proofs.Placing.{Joins}
use Rattle.stripes.proofs.joining.children.Given as goal

-- the stripes so far are taken
abbrev pub invariant-loop-guard : goal.invariant-loop-guard
invariant-loop-guard g l = record {
  joins : Joins g.K.Ord.cmp g.K.PathKey.path_of g.P.Keeps.holds l.row.entries (map mutex_guard_value (drop l.guard-index l.held.items)) (map mutex_guard_value l.held.items);
  few : length l.row.entries ≤ l.guard-index * MOST_PAIRS_OF_STRIPE;
}
