-- A worker's move on the workers' states of a job, of whatever kind.
use Rattle.std.proofs.Common.{ℕ, List, Option, Some, None, sym, subst}
use Rattle.std.specs.declared.cmp.Ordering.{Ordering}
use Rattle.trie_shape.specs.Map.{Map}
use Rattle.iter.specs.declared.interval.Interval.{Interval}
use Rattle.iter.specs.Intervals.{parts}
use Rattle.splitter.specs.Cuts.{cut_point}
use Rattle.worker_states.specs.Boards.{Board, worker, newest, oldest, taking, stealing, splitting, working, taken, stolen, split, split_at, MoveResult, TellsTruly}
use Rattle.worker_states.specs.WorkerValues.{WorkerValue, board, state_parts, IsJobOn, Leaves, Works, taking_move, stealing_move, splitting_move}
use Rattle.core_steps.specs.Moves.{MovesTo}
use Rattle.core_steps.specs.Parts.{PartsMove}
use Rattle.worker_states.proofs.WorkerLemmas.{same_state_parts}

-- only a worked piece tells of settling
quiet_taken : (D : Type 0) (b : Board) (w : ℕ) (held new : Option Interval) → TellsTruly (taken b w held new).0 D
quiet_taken D b w None (Some i) = tt
quiet_taken D b w None None = tt
quiet_taken D b w (Some h) new = tt

quiet_stolen : (D : Type 0) (b : Board) (w from : ℕ) (held old : Option Interval) → TellsTruly (stolen b w from held old).0 D
quiet_stolen D b w from None (Some i) = tt
quiet_stolen D b w from None None = tt
quiet_stolen D b w from (Some h) old = tt

quiet_split_at : (D : Type 0) (b : Board) (w : ℕ) (i : Interval) (o : Option ℕ) → TellsTruly (split_at b w i o).0 D
quiet_split_at D b w i None = tt
quiet_split_at D b w i (Some mid) = tt

quiet_split : (D : Type 0) (point : Interval → Option ℕ) (b : Board) (w : ℕ) (held : Option Interval) → TellsTruly (split point b w held).0 D
quiet_split D point b w None = tt
quiet_split D point b w (Some i) = quiet_split_at D b w i (point i)

module _ {K V P : Type 0} (R : K → K → Ordering) (path : K → ℕ) (answers : Map K V → P → Type 0) (D : Map K V → Type 0) (m : Map K V) (grain : ℕ) (ds es : List (WorkerValue K V P)) (y : MoveResult) where
  pub take_moves : (w : ℕ) → Leaves ds es y (taking_move ds w) → IsJobOn R path answers m es → MovesTo R path answers D m grain ds (taking w) y es
  take_moves w left job = record { told = left.told_is; left = left.board_is; truly = subst (λ (t : MoveResult). TellsTruly t (D (parts path m (worker (board es) w).worked))) (sym left.told_is) (quiet_taken (D (parts path m (worker (board es) w).worked)) (board ds) w (worker (board ds) w).held (newest (worker (board ds) w).queue)); parts = same_state_parts ds es left.parts_stay; job = job }

  pub steal_moves : (w from : ℕ) → Leaves ds es y (stealing_move ds w from) → IsJobOn R path answers m es → MovesTo R path answers D m grain ds (stealing w from) y es
  steal_moves w from left job = record { told = left.told_is; left = left.board_is; truly = subst (λ (t : MoveResult). TellsTruly t (D (parts path m (worker (board es) w).worked))) (sym left.told_is) (quiet_stolen (D (parts path m (worker (board es) w).worked)) (board ds) w from (worker (board ds) w).held (oldest (worker (board ds) from).queue)); parts = same_state_parts ds es left.parts_stay; job = job }

  pub split_moves : (w : ℕ) → Leaves ds es y (splitting_move (λ i. cut_point path m i grain) ds w) → IsJobOn R path answers m es → MovesTo R path answers D m grain ds (splitting w) y es
  split_moves w left job = record { told = left.told_is; left = left.board_is; truly = subst (λ (t : MoveResult). TellsTruly t (D (parts path m (worker (board es) w).worked))) (sym left.told_is) (quiet_split (D (parts path m (worker (board es) w).worked)) (λ i. cut_point path m i grain) (board ds) w (worker (board ds) w).held); parts = same_state_parts ds es left.parts_stay; job = job }

  pub work_moves : (w : ℕ) → Works R path answers m D ds w y es → PartsMove (state_parts ds) (working w) y (state_parts es) → IsJobOn R path answers m es → MovesTo R path answers D m grain ds (working w) y es
  work_moves w works parts job = record { told = works.told_is; left = works.board_is; truly = works.truly; parts = parts; job = job }
