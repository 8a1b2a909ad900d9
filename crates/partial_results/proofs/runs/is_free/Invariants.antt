use Rattle.std.proofs.Common.{◌≡◌, ℕ, ◌<◌, take}
use Rattle.iter.specs.Intervals.{cover}
use Rattle.partial_results.specs.Worked.{once}
use Rattle.partial_results.proofs.runs.is_free.Given as goal

abbrev pub invariant-loop-run : goal.invariant-loop-run
invariant-loop-run l = (p : ℕ) → 0 < once l.interval p → cover (take l.run-index l.runs) p ≡ 0
