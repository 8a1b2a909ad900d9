-- The pairs of a piece.
use Rattle.std.proofs.Common.{◌≤◌, ℕ, Bool, [], length, arith}
use Rattle.std.specs.declared.cmp.Ordering.{Ordering}
use Rattle.hash_path.specs.Digits.{position}
use Rattle.iter.specs.declared.interval.Interval.{Interval}
use Rattle.iter.specs.Intervals.{lies_in, part}
use Rattle.combiner.specs.Unions.{AreApart}
use Rattle.versions.specs.Map.{Map, IsMap}
use Rattle.versions.specs.declared.version.TheConstants.{MOST_PAIRS}
use Rattle.bulk_work.proofs.Unions.{passing_le, sorted_passing, true_of, truth_of}
use Rattle.bulk_work.proofs.Works.{none_apart}

module _ {K V : Type 0} (path : K → ℕ) (m : Map K V) (i : Interval) where
  abbrev here : K → V → Bool
  here k v = lies_in i (position (path k))

  -- they are no more than those of the view
  pub part_le : length (part path m i) ≤ length m
  part_le = passing_le here m

  -- no pairs are apart from them
  pub none_apart_from : (R : K → K → Ordering) → IsMap R m → length m ≤ MOST_PAIRS → AreApart R [] (part path m i)
  none_apart_from R sorted few = none_apart R (part path m i) (true_of _ (sorted_passing R here m (truth_of _ sorted))) (omega (arith, part_le, few))
