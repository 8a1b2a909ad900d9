-- What moves keep of a board.
use Rattle.std.proofs.Common.{◌≡◌, ℕ, zero, suc, ◌+◌, ◌-◌, ◌<◌, ◌≤◌, Bool, List, [], ◌∷◌, ◌++◌, length, take, get_or, replicate, Option, Some, None, refl, sym, ap, ◌∙◌, arith}
use Rattle.std.specs.Prelude.{All, slice_set, sum_by, option_to_list}
use Rattle.std.proofs.lemmas.List.{take_more, take_all}
use Rattle.std.proofs.lemmas.List.Elements.{All-head, All-tail}
use Rattle.std.proofs.lemmas.Option.{slice_get_within, get_or_from_slice_get}
use Rattle.std.proofs.lemmas.List.Sums.{sum_by-cons, sum_by-append, sum_by-set}
use Rattle.iter.specs.declared.interval.Interval.{Interval}
use Rattle.iter.specs.Intervals.{whole}
use Rattle.worker_states.specs.Boards.{Worker, Board, nobody, worker, with_held, with_queue, with_worked, intervals_of, intervals, newest, without_newest, oldest, without_oldest, Move, taking, stealing, splitting, working, moved, taken, stolen, split, split_at, work, named_by, first_board}

module _ (h : Interval → ℕ) where
  -- the weight of a worker's intervals
  abbrev weight : Worker → ℕ
  weight x = sum_by h (intervals_of x)

  -- the weight of what is held
  abbrev held_weight : Option Interval → ℕ
  held_weight o = sum_by h (option_to_list o)

  weight_is : (x : Worker) → weight x ≡ sum_by h x.queue + held_weight x.held + sum_by h x.worked
  weight_is x =
      sum_by-append h (x.queue ++ option_to_list x.held) x.worked
      ∙ ap (λ n. n + sum_by h x.worked) (sum_by-append h x.queue (option_to_list x.held))

  held_some : (i : Interval) → held_weight (Some i) ≡ h i
  held_some i = omega (arith, sum_by-cons h i [])

  -- the weight of a board is that of its workers
  weight_of_all : (b : Board) → sum_by h (intervals b) ≡ sum_by weight b
  weight_of_all [] = refl
  weight_of_all (x ∷ b) =
      sum_by-append h (intervals_of x) (intervals b)
      ∙ ap (λ n. weight x + n) (weight_of_all b)
      ∙ sym (sum_by-cons weight x b)

  -- a board with another worker under a number
  changed : (b : Board) (w : ℕ) (x : Worker) → w < length b → sum_by h (intervals (slice_set b w x)) + weight (worker b w) ≡ sum_by h (intervals b) + weight x
  changed b w x there = omega (arith, weight_of_all b, weight_of_all (slice_set b w x), sum_by-set weight b w x nobody there)

  newest_weight : (is : List Interval) (i : Interval) → newest is ≡ Some i → sum_by h is ≡ sum_by h (without_newest is) + h i
  newest_weight is i e =
      let n : ℕ = length is - 1 in
      let within : n < length is = slice_get_within is n i e in
      let all : take (n + 1) is ≡ is = take_all (n + 1) is (omega arith) in
      ap (sum_by h) (sym all ∙ take_more is n i within)
      ∙ sum_by-append h (take n is) (get_or is n i ∷ [])
      ∙ omega (arith, sum_by-cons h (get_or is n i) [], ap h (get_or_from_slice_get is n i i e))

  oldest_weight : (is : List Interval) (i : Interval) → oldest is ≡ Some i → sum_by h is ≡ h i + sum_by h (without_oldest is)
  oldest_weight [] i e = cc
  oldest_weight (x ∷ is) i e = sum_by-cons h x is ∙ ap (λ n. n + sum_by h is) (ap h (get_or_from_slice_get (x ∷ is) 0 i i e))

  -- with a lighter or heavier queue
  with_queue_weight : (b : Board) (w : ℕ) (is : List Interval) → w < length b → sum_by h (intervals (with_queue b w is)) + sum_by h (worker b w).queue ≡ sum_by h (intervals b) + sum_by h is
  with_queue_weight b w is there =
      let x = worker b w in
      omega (arith, changed b w (record x { queue = is }) there, weight_is x, weight_is (record x { queue = is }))

  -- holding something else
  with_held_weight : (b : Board) (w : ℕ) (o : Option Interval) → w < length b → sum_by h (intervals (with_held b w o)) + held_weight (worker b w).held ≡ sum_by h (intervals b) + held_weight o
  with_held_weight b w o there =
      let x = worker b w in
      omega (arith, changed b w (record x { held = o }) there, weight_is x, weight_is (record x { held = o }))

  with_worked_weight : (b : Board) (w : ℕ) (is : List Interval) → w < length b → sum_by h (intervals (with_worked b w is)) + sum_by h (worker b w).worked ≡ sum_by h (intervals b) + sum_by h is
  with_worked_weight b w is there =
      let x = worker b w in
      omega (arith, changed b w (record x { worked = is }) there, weight_is x, weight_is (record x { worked = is }))

-- a worker holds what it held after one of the boards is changed without what is held there
held_kept : (b : Board) (v w : ℕ) (x : Worker) → x.held ≡ (worker b v).held → (worker (slice_set b v x) w).held ≡ (worker b w).held
held_kept [] v w x e = refl
held_kept (y ∷ b) zero zero x e = e
held_kept (y ∷ b) zero (suc w) x e = refl
held_kept (y ∷ b) (suc v) zero x e = refl
held_kept (y ∷ b) (suc v) (suc w) x e = held_kept b v w x e

length_set : (b : Board) (w : ℕ) (x : Worker) → length (slice_set b w x) ≡ length b
length_set [] w x = refl
length_set (y ∷ b) zero x = refl
length_set (y ∷ b) (suc w) x = ap suc (length_set b w x)

-- a cut keeps a weight
abbrev pub CutsKeep : (Interval → ℕ) → (Interval → Option ℕ) → Type 0
CutsKeep h point = (i : Interval) (mid : ℕ) → point i ≡ Some mid → h (record { lo = i.lo; hi = mid }) + h (record { lo = mid; hi = i.hi }) ≡ h i

module _ (h : Interval → ℕ) (point : Interval → Option ℕ) (cuts : CutsKeep h point) where
  taken_weight : (b : Board) (w : ℕ) (held new : Option Interval) → w < length b → (worker b w).held ≡ held → newest (worker b w).queue ≡ new → sum_by h (intervals (taken b w held new).1) ≡ sum_by h (intervals b)
  taken_weight b w None (Some i) there none has =
      let q = without_newest (worker b w).queue in
      let c = with_queue b w q in
      let first = with_queue_weight h b w q there in
      let still = held_kept b w w (record (worker b w) { queue = q }) refl ∙ none in
      let second = with_held_weight h c w (Some i) (omega (arith, length_set b w (record (worker b w) { queue = q }))) in
      omega (arith, first, second, ap (held_weight h) still, held_some h i, newest_weight h (worker b w).queue i has)
  taken_weight b w None None there none has = refl
  taken_weight b w (Some i) new there none has = refl

  stolen_weight : (b : Board) (w from : ℕ) (held old : Option Interval) → w < length b → from < length b → (worker b w).held ≡ held → oldest (worker b from).queue ≡ old → sum_by h (intervals (stolen b w from held old).1) ≡ sum_by h (intervals b)
  stolen_weight b w from None (Some i) there other none has =
      let q = without_oldest (worker b from).queue in
      let c = with_queue b from q in
      let first = with_queue_weight h b from q other in
      let still = held_kept b from w (record (worker b from) { queue = q }) refl ∙ none in
      let second = with_held_weight h c w (Some i) (omega (arith, length_set b from (record (worker b from) { queue = q }))) in
      omega (arith, first, second, ap (held_weight h) still, held_some h i, oldest_weight h (worker b from).queue i has)
  stolen_weight b w from None None there other none has = refl
  stolen_weight b w from (Some i) old there other none has = refl

  split_weight : (b : Board) (w : ℕ) (i : Interval) (o : Option ℕ) → w < length b → (worker b w).held ≡ Some i → point i ≡ o → sum_by h (intervals (split_at b w i o).1) ≡ sum_by h (intervals b)
  split_weight b w i None there some has = refl
  split_weight b w i (Some mid) there some has =
      let upper : Interval = record { lo = mid; hi = i.hi } in
      let lower : Interval = record { lo = i.lo; hi = mid } in
      let q = (worker b w).queue ++ upper ∷ [] in
      let c = with_queue b w q in
      let first = with_queue_weight h b w q there in
      let still = held_kept b w w (record (worker b w) { queue = q }) refl ∙ some in
      let second = with_held_weight h c w (Some lower) (omega (arith, length_set b w (record (worker b w) { queue = q }))) in
      let longer = sum_by-append h (worker b w).queue (upper ∷ []) in
      omega (arith, first, second, ap (held_weight h) still, held_some h i, held_some h lower, longer, sum_by-cons h upper [], cuts i mid has)

  work_weight : (size : Interval → ℕ) (settled : Bool) (b : Board) (w : ℕ) (held : Option Interval) → w < length b → (worker b w).held ≡ held → sum_by h (intervals (work size settled b w held).1) ≡ sum_by h (intervals b)
  work_weight size settled b w None there some = refl
  work_weight size settled b w (Some i) there some =
      let all = (worker b w).worked ++ i ∷ [] in
      let c = with_worked b w all in
      let first = with_worked_weight h b w all there in
      let still = held_kept b w w (record (worker b w) { worked = all }) refl ∙ some in
      let second = with_held_weight h c w None (omega (arith, length_set b w (record (worker b w) { worked = all }))) in
      let longer = sum_by-append h (worker b w).worked (i ∷ []) in
      omega (arith, first, second, ap (held_weight h) still, held_some h i, longer, sum_by-cons h i [])

  split_any : (b : Board) (w : ℕ) (held : Option Interval) → w < length b → (worker b w).held ≡ held → sum_by h (intervals (split point b w held).1) ≡ sum_by h (intervals b)
  split_any b w None there some = refl
  split_any b w (Some i) there some = split_weight b w i (point i) there some refl

  -- no move changes the weight of a board
  pub moved_weight : (size : Interval → ℕ) (settled : Bool) (b : Board) (x : Move) → All (λ w. w < length b) (named_by x) → sum_by h (intervals (moved point size settled b x).1) ≡ sum_by h (intervals b)
  moved_weight size settled b (taking w) there = taken_weight b w (worker b w).held (newest (worker b w).queue) (All-head (λ v. v < length b) w [] there) refl refl
  moved_weight size settled b (stealing w from) there = stolen_weight b w from (worker b w).held (oldest (worker b from).queue) (All-head (λ v. v < length b) w (from ∷ []) there) (All-head (λ v. v < length b) from [] (All-tail (λ v. v < length b) w (from ∷ []) there)) refl refl
  moved_weight size settled b (splitting w) there = split_any b w (worker b w).held (All-head (λ v. v < length b) w [] there) refl
  moved_weight size settled b (working w) there = work_weight size settled b w (worker b w).held (All-head (λ v. v < length b) w [] there) refl

-- a move keeps the number of workers
module _ (point : Interval → Option ℕ) where
  taken_long : (b : Board) (w : ℕ) (held new : Option Interval) → length (taken b w held new).1 ≡ length b
  taken_long b w None (Some i) = length_set (with_queue b w (without_newest (worker b w).queue)) w _ ∙ length_set b w _
  taken_long b w None None = refl
  taken_long b w (Some i) new = refl

  stolen_long : (b : Board) (w from : ℕ) (held old : Option Interval) → length (stolen b w from held old).1 ≡ length b
  stolen_long b w from None (Some i) = length_set (with_queue b from (without_oldest (worker b from).queue)) w _ ∙ length_set b from _
  stolen_long b w from None None = refl
  stolen_long b w from (Some i) old = refl

  split_long : (b : Board) (w : ℕ) (i : Interval) (o : Option ℕ) → length (split_at b w i o).1 ≡ length b
  split_long b w i None = refl
  split_long b w i (Some mid) = length_set (with_queue b w ((worker b w).queue ++ record { lo = mid; hi = i.hi } ∷ [])) w _ ∙ length_set b w _

  split_any_long : (b : Board) (w : ℕ) (held : Option Interval) → length (split point b w held).1 ≡ length b
  split_any_long b w None = refl
  split_any_long b w (Some i) = split_long b w i (point i)

  work_long : (size : Interval → ℕ) (settled : Bool) (b : Board) (w : ℕ) (held : Option Interval) → length (work size settled b w held).1 ≡ length b
  work_long size settled b w None = refl
  work_long size settled b w (Some i) = length_set (with_worked b w ((worker b w).worked ++ i ∷ [])) w _ ∙ length_set b w _

  pub moved_long : (size : Interval → ℕ) (settled : Bool) (b : Board) (x : Move) → length (moved point size settled b x).1 ≡ length b
  moved_long size settled b (taking w) = taken_long b w (worker b w).held (newest (worker b w).queue)
  moved_long size settled b (stealing w from) = stolen_long b w from (worker b w).held (oldest (worker b from).queue)
  moved_long size settled b (splitting w) = split_any_long b w (worker b w).held
  moved_long size settled b (working w) = work_long size settled b w (worker b w).held

module _ (h : Interval → ℕ) where
  nobody_weighs : (n : ℕ) → sum_by h (intervals (replicate n nobody)) ≡ 0
  nobody_weighs zero = refl
  nobody_weighs (suc n) = nobody_weighs n

  -- the weight of a job's first board
  pub first_weight : (workers : ℕ) → 1 ≤ workers → sum_by h (intervals (first_board workers)) ≡ h whole
  first_weight zero some = absurd (omega arith)
  first_weight (suc n) some = sum_by-append h (whole ∷ []) (intervals (replicate n nobody)) ∙ omega (arith, sum_by-cons h whole [], nobody_weighs n)
