-- Each step keeps what is true of a core.
use Rattle.std.proofs.Common.{◌≡◌, ℕ, zero, suc, ◌<◌, ◌≤◌, Bool, length, replicate, Option, Some, refl, ap, ◌∙◌, arith}
use Rattle.std.specs.Prelude.{All}
use Rattle.std.proofs.lemmas.Bool.Decides.{nat_tests}
use Rattle.iter.specs.declared.interval.Interval.{Interval}
use Rattle.worker_states.proofs.Covers.{once, once_cut}
use Rattle.splitter.specs.Cuts.{cut_point}
use Rattle.splitter.specs.Laws.{CutsDivide}
use Rattle.versions.specs.Map.{Map}
use Rattle.worker_states.specs.Boards.{Board, nobody, first_board, Move, named_by, moved}
use Rattle.core_steps.specs.Invariants.{emptiness, IsBoard}
use Rattle.core_steps.proofs.Weights.{CutsKeep, moved_weight, first_weight, moved_long}

-- a cut point lies within its interval
abbrev pub CutsWithin : (Interval → Option ℕ) → Type 0
CutsWithin point = (i : Interval) (mid : ℕ) → point i ≡ Some mid → (i.lo < mid) × (mid < i.hi)

-- every cut point of a map lies within its interval, where cuts divide
pub cuts_within : {K V : Type 0} (path : K → ℕ) → CutsDivide V path → (m : Map K V) (grain : ℕ) → CutsWithin (λ i. cut_point path m i grain)
cuts_within path divide m grain i mid e = let d = divide m i grain mid e in (d.low, d.high)

module _ (point : Interval → Option ℕ) (cuts : CutsWithin point) where
  pub covers_kept : (p : ℕ) → CutsKeep (λ i. once i p) point
  covers_kept p i mid e = let c = cuts i mid e in once_cut i mid p (omega (arith, c.0)) (omega (arith, c.1))

  emptiness_kept : CutsKeep emptiness point
  emptiness_kept i mid e = let c = cuts i mid e in grind (arith, nat_tests, c.0, c.1)

  -- a move leaves a board
  pub board_kept : (workers : ℕ) (size : Interval → ℕ) (settled : Bool) (b : Board) (x : Move) → All (λ w. w < length b) (named_by x) → IsBoard workers b → IsBoard workers (moved point size settled b x).1
  board_kept workers size settled b x there is = record {
    long = moved_long point size settled b x ∙ is.long;
    tile = λ p. moved_weight (λ i. once i p) point (covers_kept p) size settled b x there ∙ is.tile p;
    filled = moved_weight emptiness point emptiness_kept size settled b x there ∙ is.filled;
  }

-- the first board of a job is one
pub first_is_board : (workers : ℕ) → 1 ≤ workers → IsBoard workers (first_board workers)
first_is_board workers some = record {
  long = first_long workers;
  tile = λ p. first_weight (λ i. once i p) workers some;
  filled = first_weight emptiness workers some;
}
  where
    first_long : (n : ℕ) → length (first_board n) ≡ n
    first_long zero = refl
    first_long (suc n) = ap suc (long n)
      where
        long : (n : ℕ) → length (replicate n nobody) ≡ n
        long zero = refl
        long (suc n) = ap suc (long n)
