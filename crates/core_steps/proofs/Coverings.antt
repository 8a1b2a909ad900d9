-- The worked intervals of a job never share a position.
use Rattle.std.proofs.Common.{◌≡◌, ℕ, zero, suc, ◌+◌, ◌<◌, Bool, List, [], ◌∷◌, ◌++◌, length, Option, Some, None, refl, sym, ap, ◌∙◌, arith}
use Rattle.std.specs.Prelude.{All, sum_by, slice_set}
use Rattle.std.proofs.lemmas.List.Elements.{All-head}
use Rattle.std.proofs.lemmas.List.Sums.{sum_by-cons, sum_by-append, sum_by-set}
use Rattle.iter.specs.declared.interval.Interval.{Interval}
use Rattle.worker_states.specs.Boards.{Worker, Board, nobody, worker, with_held, with_queue, with_worked, all_worked, newest, without_newest, oldest, without_oldest, MoveResult, took, cut, uncut, done, idle, Move, taking, stealing, splitting, working, moved, taken, stolen, split, split_at, work, named_by}

-- the interval that a move has worked, if any
abbrev pub worked_by : MoveResult → List Interval
worked_by (done lo hi n settled) = record { lo = lo; hi = hi } ∷ []
worked_by (took lo hi) = []
worked_by (cut lo mid hi) = []
worked_by uncut = []
worked_by idle = []

module _ (h : Interval → ℕ) where
  -- the weight of what a worker has worked
  abbrev done_weight : Worker → ℕ
  done_weight x = sum_by h x.worked

  done_of_all : (b : Board) → sum_by h (all_worked b) ≡ sum_by done_weight b
  done_of_all [] = refl
  done_of_all (x ∷ b) = sum_by-append h x.worked (all_worked b) ∙ ap (λ n. done_weight x + n) (done_of_all b) ∙ sym (sum_by-cons done_weight x b)

  -- a board with a worker that has worked the same
  same_done : (b : Board) (w : ℕ) (x : Worker) → x.worked ≡ (worker b w).worked → sum_by h (all_worked (slice_set b w x)) ≡ sum_by h (all_worked b)
  same_done [] w x e = refl
  same_done (y ∷ b) zero x e = ap (λ ws. sum_by h (ws ++ all_worked b)) e
  same_done (y ∷ b) (suc w) x e =
      sum_by-append h y.worked (all_worked (slice_set b w x)) ∙ ap (λ n. sum_by h y.worked + n) (same_done b w x e) ∙ sym (sum_by-append h y.worked (all_worked b))

  worked_kept : (b : Board) (v w : ℕ) (x : Worker) → x.worked ≡ (worker b v).worked → (worker (slice_set b v x) w).worked ≡ (worker b w).worked
  worked_kept [] v w x e = refl
  worked_kept (y ∷ b) zero zero x e = e
  worked_kept (y ∷ b) zero (suc w) x e = refl
  worked_kept (y ∷ b) (suc v) zero x e = refl
  worked_kept (y ∷ b) (suc v) (suc w) x e = worked_kept b v w x e

  -- a change of a queue and of what is held
  held_and_queue : (b : Board) (v w : ℕ) (is : List Interval) (o : Option Interval) → sum_by h (all_worked (with_held (with_queue b v is) w o)) ≡ sum_by h (all_worked b)
  held_and_queue b v w is o = same_done (with_queue b v is) w (record (worker (with_queue b v is) w) { held = o }) refl ∙ same_done b v (record (worker b v) { queue = is }) refl

  more_done : (b : Board) (w : ℕ) (i : Interval) → w < length b → sum_by h (all_worked (with_worked b w ((worker b w).worked ++ i ∷ []))) ≡ sum_by h (all_worked b) + h i
  more_done b w i there =
      let x : Worker = record (worker b w) { worked = (worker b w).worked ++ i ∷ [] } in
      omega (arith, done_of_all b, done_of_all (slice_set b w x), sum_by-set done_weight b w x nobody there, sum_by-append h (worker b w).worked (i ∷ []), sum_by-cons h i [])

  taken_done : (b : Board) (w : ℕ) (held new : Option Interval) → sum_by h (all_worked (taken b w held new).1) ≡ sum_by h (all_worked b) + sum_by h (worked_by (taken b w held new).0)
  taken_done b w None (Some i) = omega (arith, held_and_queue b w w (without_newest (worker b w).queue) (Some i))
  taken_done b w None None = omega arith
  taken_done b w (Some i) new = omega arith

  stolen_done : (b : Board) (w from : ℕ) (held old : Option Interval) → sum_by h (all_worked (stolen b w from held old).1) ≡ sum_by h (all_worked b) + sum_by h (worked_by (stolen b w from held old).0)
  stolen_done b w from None (Some i) = omega (arith, held_and_queue b from w (without_oldest (worker b from).queue) (Some i))
  stolen_done b w from None None = omega arith
  stolen_done b w from (Some i) old = omega arith

  split_done : (b : Board) (w : ℕ) (i : Interval) (o : Option ℕ) → sum_by h (all_worked (split_at b w i o).1) ≡ sum_by h (all_worked b) + sum_by h (worked_by (split_at b w i o).0)
  split_done b w i None = omega arith
  split_done b w i (Some mid) = omega (arith, held_and_queue b w w ((worker b w).queue ++ record { lo = mid; hi = i.hi } ∷ []) (Some (record { lo = i.lo; hi = mid })))

  split_any_done : (point : Interval → Option ℕ) (b : Board) (w : ℕ) (held : Option Interval) → sum_by h (all_worked (split point b w held).1) ≡ sum_by h (all_worked b) + sum_by h (worked_by (split point b w held).0)
  split_any_done point b w None = omega arith
  split_any_done point b w (Some i) = split_done b w i (point i)

  work_done : (size : Interval → ℕ) (settled : Bool) (b : Board) (w : ℕ) (held : Option Interval) → w < length b → sum_by h (all_worked (work size settled b w held).1) ≡ sum_by h (all_worked b) + sum_by h (worked_by (work size settled b w held).0)
  work_done size settled b w None there = omega arith
  work_done size settled b w (Some i) there =
      let c = with_worked b w ((worker b w).worked ++ i ∷ []) in
      omega (arith, same_done c w (record (worker c w) { held = None }) refl, more_done b w i there, sum_by-cons h i [])

  -- a move adds to what was worked the interval that it tells of, and nothing else
  pub moved_done : (point : Interval → Option ℕ) (size : Interval → ℕ) (settled : Bool) (b : Board) (x : Move) → All (λ w. w < length b) (named_by x)
      → sum_by h (all_worked (moved point size settled b x).1) ≡ sum_by h (all_worked b) + sum_by h (worked_by (moved point size settled b x).0)
  moved_done point size settled b (taking w) there = taken_done b w (worker b w).held (newest (worker b w).queue)
  moved_done point size settled b (stealing w from) there = stolen_done b w from (worker b w).held (oldest (worker b from).queue)
  moved_done point size settled b (splitting w) there = split_any_done point b w (worker b w).held
  moved_done point size settled b (working w) there = work_done size settled b w (worker b w).held (All-head (λ v. v < length b) w [] there)
