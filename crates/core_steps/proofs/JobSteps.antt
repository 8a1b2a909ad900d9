-- Moves keep what is true of the states of a job's workers.
use Rattle.std.proofs.Common.{◌≡◌, ℕ, ◌<◌, Bool, false, List, [], ◌∷◌, length, sym, ap, subst, arith}
use Rattle.std.specs.Prelude.{All}
use Rattle.std.specs.declared.cmp.Ordering.{Ordering}
use Rattle.std.proofs.lemmas.List.{length-map}
use Rattle.std.proofs.lemmas.List.Elements.{All-nil, All-cons}
use Rattle.trie_shape.specs.Map.{Map}
use Rattle.iter.specs.declared.interval.Interval.{Interval}
use Rattle.iter.specs.Intervals.{cover, part}
use Rattle.splitter.specs.Cuts.{cut_point}
use Rattle.splitter.specs.Laws.{CutsDivide}
use Rattle.worker_states.specs.Boards.{Board, intervals, Move, taking, stealing, splitting, working, moved, named_by, MoveResult, tells_settled}
use Rattle.worker_states.specs.WorkerValues.{WorkerValue, worker_of, board, HasPart, IsJobOn, Leaves, Works, taking_move, stealing_move, splitting_move}
use Rattle.worker_states.proofs.Covers.{once}
use Rattle.core_steps.proofs.Weights.{moved_weight}
use Rattle.core_steps.proofs.KeptBoards.{cuts_within, covers_kept}

module _ {K V P : Type 0} (R : K → K → Ordering) (path : K → ℕ) (answers : Map K V → P → Type 0) (m : Map K V) (divide : CutsDivide V path) (grain : ℕ) where
  -- a state's number is a worker's
  named : (ds : List (WorkerValue K V P)) (w : ℕ) → w < length ds → w < length (board ds)
  named ds w there = omega (arith, length-map ds worker_of, there)

  -- a move covers what was covered
  same_cover : (size : Interval → ℕ) (settled : Bool) (b : Board) (x : Move) (p : ℕ) → All (λ w. w < length b) (named_by x)
      → cover (intervals (moved (λ i. cut_point path m i grain) size settled b x).1) p ≡ cover (intervals b) p
  same_cover size settled b x p there =
      moved_weight (λ i. once i p) (λ i. cut_point path m i grain) (covers_kept (λ i. cut_point path m i grain) (cuts_within path divide m grain) p) size settled b x there

  leaves_job : (ds es : List (WorkerValue K V P)) (y : MoveResult) (move : MoveResult × Board) → ((p : ℕ) → cover (intervals move.1) p ≡ cover (intervals (board ds)) p)
      → Leaves ds es y move → IsJobOn R path answers m ds → IsJobOn R path answers m es
  leaves_job ds es y move same left job = record {
    sorted = job.sorted;
    few = job.few;
    pieces = left.pieces m job.pieces;
    answered = subst (All (HasPart R path answers m)) (sym left.parts_stay) job.answered;
    apart = λ p. omega (arith, ap (λ b. cover (intervals b) p) left.board_is, same p, job.apart p);
  }

  only : (ds : List (WorkerValue K V P)) (w : ℕ) → w < length ds → All (λ v. v < length (board ds)) (w ∷ [])
  only ds w there = All-cons (λ v. v < length (board ds)) w [] (named ds w there) (All-nil (λ v. v < length (board ds)))

  -- after a worker takes
  pub taking_job : (ds es : List (WorkerValue K V P)) (y : MoveResult) (w : ℕ) → w < length ds → Leaves ds es y (taking_move ds w) → IsJobOn R path answers m ds → IsJobOn R path answers m es
  taking_job ds es y w there left job = leaves_job ds es y (taking_move ds w) (λ p. same_cover (λ i. 0) false (board ds) (taking w) p (only ds w there)) left job

  -- after a worker steals
  pub stealing_job : (ds es : List (WorkerValue K V P)) (y : MoveResult) (w from : ℕ) → w < length ds → from < length ds → Leaves ds es y (stealing_move ds w from) → IsJobOn R path answers m ds → IsJobOn R path answers m es
  stealing_job ds es y w from there other left job =
      leaves_job ds es y (stealing_move ds w from)
      (λ p. same_cover (λ i. 0) false (board ds) (stealing w from) p (All-cons (λ v. v < length (board ds)) w (from ∷ []) (named ds w there) (only ds from other))) left job

  -- after a worker splits
  pub splitting_job : (ds es : List (WorkerValue K V P)) (y : MoveResult) (w : ℕ) → w < length ds → Leaves ds es y (splitting_move (λ i. cut_point path m i grain) ds w) → IsJobOn R path answers m ds → IsJobOn R path answers m es
  splitting_job ds es y w there left job =
      leaves_job ds es y (splitting_move (λ i. cut_point path m i grain) ds w) (λ p. same_cover (λ i. 0) false (board ds) (splitting w) p (only ds w there)) left job

  -- after a worker works
  pub working_job : (D : Map K V → Type 0) (ds es : List (WorkerValue K V P)) (y : MoveResult) (w : ℕ) → w < length ds → Works R path answers m D ds w y es → IsJobOn R path answers m ds → IsJobOn R path answers m es
  working_job D ds es y w there works job = record {
    sorted = job.sorted;
    few = job.few;
    pieces = works.pieces;
    answered = works.answered;
    apart = λ p. omega (arith, ap (λ b. cover (intervals b) p) works.board_is, same_cover (λ i. length (part path m i)) (tells_settled y) (board ds) (working w) p (only ds w there), job.apart p);
  }
