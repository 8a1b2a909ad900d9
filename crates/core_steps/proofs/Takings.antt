-- What taking, stealing and splitting leave of a board.
use Rattle.std.proofs.Common.{◌≡◌, ℕ, ◌-◌, ◌<◌, true, List, [], ◌∷◌, ◌++◌, length, map, get_or, set, Option, Some, None, is_none, refl, sym, ap, ◌∙◌, subst}
use Rattle.std.specs.Prelude.{All, IfSome, IfOk, Result, Ok, Err, option_map, slice_get}
use Rattle.std.proofs.lemmas.Option.{slice_get_within, get_or_from_slice_get}
use Rattle.std.proofs.lemmas.List.Elements.{All-get_or, All-set, All-take, All-drop, All-push}
use Rattle.trie_shape.specs.Map.{Map}
use Rattle.iter.specs.declared.interval.Interval.{Interval}
use Rattle.splitter.specs.Portion.{Portion}
use Rattle.splitter.specs.Cuts.{cut_point}
use Rattle.worker_states.specs.Boards.{Worker, Board, worker, with_queue, with_held, newest, without_newest, oldest, without_oldest, MoveResult, took, cut, taken, stolen, split, split_at}
use Rattle.worker_states.specs.WorkerValues.{WorkerValue, interval_of, board, result_of, HasPieces, Leaves, state_take, state_taken, state_split, state_split_of, state_cut, taking_move, stealing_move, splitting_move}
use Rattle.worker_states.proofs.WorkerLemmas.{newest_interval, rest_intervals, oldest_interval, later_intervals, map_append, worker_is, with_queue_is, with_held_is, with_both_is, still_there, leaves_set, leaves_same, results_at}

-- a result that is one thing where it is another
pub if_ok : {X E : Type 0} (A B : X → Type 0) (r : Result X E) → ((x : X) → A x → B x) → IfOk r A → IfOk r B
if_ok A B (Ok x) f h = f x h
if_ok A B (Err e) f h = tt

-- two things that are so where it is some
pub both_ok : {X E : Type 0} (A B : X → Type 0) (r : Result X E) → IfOk r A → IfOk r B → IfOk r (λ x. A x × B x)
both_ok A B (Ok x) a b = (a, b)
both_ok A B (Err e) a b = tt

-- what stands at a place of a list that all of it is
at_place : {X : Type 0} (Q : X → Type 0) (xs : List X) (k : ℕ) (x : X) → slice_get xs k ≡ Some x → All Q xs → Q x
at_place Q xs k x e all = subst Q (get_or_from_slice_get xs k x x e) (All-get_or Q xs k x (slice_get_within xs k x e) all)

module _ {K V P : Type 0} where
  -- the move of a worker that takes
  take_move_is : (ds : List (WorkerValue K V P)) (w : ℕ) (d : WorkerValue K V P) → w < length ds → d ≡ get_or ds w d
      → taking_move ds w ≡ taken (board ds) w (option_map interval_of d.held) (option_map interval_of (newest d.queue))
  take_move_is ds w d there read =
      ap (λ (x : Worker). taken (board ds) w x.held (newest x.queue)) (worker_is ds w d there read)
      ∙ ap (taken (board ds) w (option_map interval_of d.held)) (newest_interval d.queue)

  taken_leaves : (ds : List (WorkerValue K V P)) (w : ℕ) (d e : WorkerValue K V P) (y : MoveResult) (o n : Option (Portion K V)) → w < length ds → d ≡ get_or ds w d
      → d.held ≡ o → newest d.queue ≡ n → (y, e) ≡ state_taken d o n → Leaves ds (set ds w e) y (taking_move ds w)
  taken_leaves ds w d e y None (Some p) there read none some is =
      let move : taking_move ds w ≡ taken (board ds) w None (Some p.interval) =
      take_move_is ds w d there read ∙ (λ i. taken (board ds) w (option_map interval_of (none i)) (option_map interval_of (some i))) in
      let queue : without_newest (worker (board ds) w).queue ≡ map interval_of (without_newest d.queue) =
      ap (λ (x : Worker). without_newest x.queue) (worker_is ds w d there read) ∙ rest_intervals d.queue in
      let after : with_held (with_queue (board ds) w (without_newest (worker (board ds) w).queue)) w (Some p.interval) ≡ board (set ds w e) =
      ap (λ q. with_held (with_queue (board ds) w q) w (Some p.interval)) queue
      ∙ with_both_is ds w d (without_newest d.queue) (Some p) there read
      ∙ ap (λ (t : MoveResult × WorkerValue K V P). board (set ds w t.1)) (sym is) in
      let told : took p.interval.lo p.interval.hi ≡ y = ap (λ (t : MoveResult × WorkerValue K V P). t.0) (sym is) in
      leaves_set ds w d e y (taking_move ds w) there read (move ∙ (λ i. (told i, after i)))
      (ap (λ (t : MoveResult × WorkerValue K V P). result_of t.1) is)
      (λ m has. subst (HasPieces m) (ap (λ (t : MoveResult × WorkerValue K V P). t.1) (sym is)) (record {
        queue = All-take (λ q. q.map ≡ m) (length d.queue - 1) d.queue has.queue;
        held = at_place (λ q. q.map ≡ m) d.queue (length d.queue - 1) p some has.queue;
      }))
  taken_leaves ds w d e y None None there read none some is =
      leaves_same ds w d e y (taking_move ds w) read (ap (λ (t : MoveResult × WorkerValue K V P). t.1) is)
      (take_move_is ds w d there read ∙ (λ i. taken (board ds) w (option_map interval_of (none i)) (option_map interval_of (some i))) ∙ ap (λ (t : MoveResult × WorkerValue K V P). (t.0, board ds)) (sym is))
  taken_leaves ds w d e y (Some h) n there read none some is =
      leaves_same ds w d e y (taking_move ds w) read (ap (λ (t : MoveResult × WorkerValue K V P). t.1) is)
      (take_move_is ds w d there read ∙ (λ i. taken (board ds) w (option_map interval_of (none i)) (option_map interval_of (some i))) ∙ ap (λ (t : MoveResult × WorkerValue K V P). (t.0, board ds)) (sym is))

  -- a worker takes
  pub take_leaves : (ds : List (WorkerValue K V P)) (w : ℕ) (d e : WorkerValue K V P) (y : MoveResult) → w < length ds → d ≡ get_or ds w d
      → (y, e) ≡ state_take d → Leaves ds (set ds w e) y (taking_move ds w)
  take_leaves ds w d e y there read is = taken_leaves ds w d e y d.held (newest d.queue) there read refl refl is

  -- a worker that holds none steals the oldest piece of a queue
  pub steal_leaves : (ds : List (WorkerValue K V P)) (w from : ℕ) (thief owner left holder after : WorkerValue K V P) (p : Portion K V) (y : MoveResult)
      → w < length ds → from < length ds → thief ≡ get_or ds w thief → is_none thief.held ≡ true
      → owner ≡ get_or ds from owner → oldest owner.queue ≡ Some p → left ≡ record owner { queue = without_oldest owner.queue }
      → holder ≡ get_or (set ds from left) w holder → after ≡ record holder { held = Some p } → y ≡ took p.interval.lo p.interval.hi
      → Leaves ds (set (set ds from left) w after) y (stealing_move ds w from)
  steal_leaves ds w from thief owner left holder after p y there other read_thief free read_owner first left_is read_holder after_is told =
      let b : Board = board ds in
      let es : List (WorkerValue K V P) = set ds from left in
      let held : (worker b w).held ≡ None = ap (λ (x : Worker). x.held) (worker_is ds w thief there read_thief) ∙ ap (option_map interval_of) (none_of thief.held free) in
      let old : oldest (worker b from).queue ≡ Some p.interval = ap (λ (x : Worker). oldest x.queue) (worker_is ds from owner other read_owner) ∙ oldest_interval owner.queue ∙ ap (option_map interval_of) first in
      let queue : without_oldest (worker b from).queue ≡ map interval_of (without_oldest owner.queue) = ap (λ (x : Worker). without_oldest x.queue) (worker_is ds from owner other read_owner) ∙ later_intervals owner.queue in
      let one : with_queue b from (without_oldest (worker b from).queue) ≡ board es =
      ap (with_queue b from) queue ∙ with_queue_is ds from owner (without_oldest owner.queue) other read_owner ∙ ap (λ d. board (set ds from d)) (sym left_is) in
      let two : with_held (with_queue b from (without_oldest (worker b from).queue)) w (Some p.interval) ≡ board (set es w after) =
      ap (λ (c : Board). with_held c w (Some p.interval)) one ∙ with_held_is es w holder (Some p) (still_there ds from w left there) read_holder ∙ ap (λ d. board (set es w d)) (sym after_is) in
      let move : stealing_move ds w from ≡ stolen b w from None (Some p.interval) = λ i. stolen b w from (held i) (old i) in
      let pieces_left : (m : Map K V) → HasPieces m owner → HasPieces m left = λ m has. subst (HasPieces m) (sym left_is) (record { queue = All-drop (λ q. q.map ≡ m) 1 owner.queue has.queue; held = has.held }) in
      record {
        told_is = told ∙ ap (λ (t : MoveResult × Board). t.0) (sym move);
        board_is = sym (ap (λ (t : MoveResult × Board). t.1) move ∙ two);
        pieces = λ m all.
            let first_has = subst (HasPieces m) (sym read_owner) (All-get_or (HasPieces m) ds from owner other all) in
            let rest = All-set (HasPieces m) ds from left (pieces_left m first_has) all in
            let holder_has = subst (HasPieces m) (sym read_holder) (All-get_or (HasPieces m) es w holder (still_there ds from w left there) rest) in
            All-set (HasPieces m) es w after (subst (HasPieces m) (sym after_is) (record { queue = holder_has.queue; held = at_place (λ q. q.map ≡ m) owner.queue 0 p first first_has.queue })) rest;
        parts_stay = results_at es w holder after (ap result_of after_is ∙ ap result_of read_holder) ∙ results_at ds from owner left (ap result_of left_is ∙ ap result_of read_owner);
      }
    where
      none_of : (o : Option (Portion K V)) → is_none o ≡ true → o ≡ None
      none_of None e = refl
      none_of (Some q) e = cc

module _ {K V : Type 0} (path : K → ℕ) (grain : ℕ) (m : Map K V) where
  -- the cut point of an interval of the map
  abbrev point : Interval → Option ℕ
  point i = cut_point path m i grain

module _ {K V P : Type 0} (path : K → ℕ) (grain : ℕ) (m : Map K V) where
  move_is : (ds : List (WorkerValue K V P)) (w : ℕ) (d : WorkerValue K V P) (o : Option (Portion K V)) → w < length ds → d ≡ get_or ds w d → d.held ≡ o → splitting_move (point path grain m) ds w ≡ split (point path grain m) (board ds) w (option_map interval_of o)
  move_is ds w d o there read held = ap (λ (x : Worker). split (point path grain m) (board ds) w x.held) (worker_is ds w d there read) ∙ ap (λ (o : Option (Portion K V)). split (point path grain m) (board ds) w (option_map interval_of o)) held

  cut_leaves : (ds : List (WorkerValue K V P)) (w : ℕ) (d e : WorkerValue K V P) (y : MoveResult) (p : Portion K V) (o : Option ℕ) → w < length ds → d ≡ get_or ds w d → d.held ≡ Some p
      → splitting_move (point path grain m) ds w ≡ split_at (board ds) w p.interval o → (y, e) ≡ state_cut d p o → Leaves ds (set ds w e) y (splitting_move (point path grain m) ds w)
  cut_leaves ds w d e y p None there read held move is =
      leaves_same ds w d e y (splitting_move (point path grain m) ds w) read (ap (λ (t : MoveResult × WorkerValue K V P). t.1) is) (move ∙ ap (λ (t : MoveResult × WorkerValue K V P). (t.0, board ds)) (sym is))
  cut_leaves ds w d e y p (Some mid) there read held move is =
      let upper : Portion K V = record p { interval = record { lo = mid; hi = p.interval.hi } } in
      let lower : Portion K V = record p { interval = record { lo = p.interval.lo; hi = mid } } in
      let queue : (worker (board ds) w).queue ++ upper.interval ∷ [] ≡ map interval_of (d.queue ++ upper ∷ []) =
      ap (λ (x : Worker). x.queue ++ upper.interval ∷ []) (worker_is ds w d there read) ∙ sym (map_append interval_of d.queue (upper ∷ [])) in
      let after : with_held (with_queue (board ds) w ((worker (board ds) w).queue ++ upper.interval ∷ [])) w (Some lower.interval) ≡ board (set ds w e) =
      ap (λ q. with_held (with_queue (board ds) w q) w (Some lower.interval)) queue
      ∙ with_both_is ds w d (d.queue ++ upper ∷ []) (Some lower) there read
      ∙ ap (λ (t : MoveResult × WorkerValue K V P). board (set ds w t.1)) (sym is) in
      let told : cut p.interval.lo mid p.interval.hi ≡ y = ap (λ (t : MoveResult × WorkerValue K V P). t.0) (sym is) in
      leaves_set ds w d e y (splitting_move (point path grain m) ds w) there read (move ∙ (λ i. (told i, after i)))
      (ap (λ (t : MoveResult × WorkerValue K V P). result_of t.1) is)
      (λ n has.
      let of : p.map ≡ n = subst (λ (o : Option (Portion K V)). IfSome o (λ q. q.map ≡ n)) held has.held in
      subst (HasPieces n) (ap (λ (t : MoveResult × WorkerValue K V P). t.1) (sym is)) (record { queue = All-push (λ q. q.map ≡ n) d.queue upper has.queue of; held = of }))

  split_leaves_by : (ds : List (WorkerValue K V P)) (w : ℕ) (d e : WorkerValue K V P) (y : MoveResult) (o : Option (Portion K V)) → w < length ds → d ≡ get_or ds w d → HasPieces m d → d.held ≡ o
      → (y, e) ≡ state_split_of path grain d o → Leaves ds (set ds w e) y (splitting_move (point path grain m) ds w)
  split_leaves_by ds w d e y None there read has held is =
      leaves_same ds w d e y (splitting_move (point path grain m) ds w) read (ap (λ (t : MoveResult × WorkerValue K V P). t.1) is)
      (move_is ds w d None there read held ∙ ap (λ (t : MoveResult × WorkerValue K V P). (t.0, board ds)) (sym is))
  split_leaves_by ds w d e y (Some p) there read has held is =
      let of : p.map ≡ m = subst (λ (o : Option (Portion K V)). IfSome o (λ q. q.map ≡ m)) held has.held in
      cut_leaves ds w d e y p (point path grain m p.interval) there read held (move_is ds w d (Some p) there read held) (is ∙ ap (λ n. state_cut d p (cut_point path n p.interval grain)) of)

  -- a worker splits
  pub split_leaves : (ds : List (WorkerValue K V P)) (w : ℕ) (d e : WorkerValue K V P) (y : MoveResult) → w < length ds → d ≡ get_or ds w d → All (HasPieces m) ds
      → (y, e) ≡ state_split path grain d → Leaves ds (set ds w e) y (splitting_move (point path grain m) ds w)
  split_leaves ds w d e y there read all is =
      split_leaves_by ds w d e y d.held there read (subst (HasPieces m) (sym read) (All-get_or (HasPieces m) ds w d there all)) refl is
