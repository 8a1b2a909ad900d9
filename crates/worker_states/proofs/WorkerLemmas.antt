-- Workers' states, and the board that they show.
use Rattle.std.proofs.Common.{◌≡◌, ℕ, zero, suc, ◌-◌, ◌<◌, List, [], ◌∷◌, ◌++◌, length, take, map, get_or, set, Option, refl, sym, ap, ◌∙◌, subst, arith}
use Rattle.std.specs.Prelude.{option_map, slice_get}
use Rattle.std.proofs.lemmas.List.{map-set, set-set, set-get_or, get_or-set_same, length-map, length-set, take-map}
use Rattle.std.proofs.lemmas.Option.{slice_get-map}
use Rattle.std.proofs.lemmas.List.Elements.{All-get_or, All-set}
use Rattle.trie_shape.specs.Map.{Map}
use Rattle.iter.specs.declared.interval.Interval.{Interval}
use Rattle.splitter.specs.Portion.{Portion}
use Rattle.worker_states.specs.Boards.{Worker, Board, worker, with_queue, with_held, newest, without_newest, oldest, without_oldest, MoveResult}
use Rattle.worker_states.specs.WorkerValues.{WorkerValue, interval_of, worker_of, board, result_of, results, state_parts, HasPieces, Leaves}

pub newest_interval : {K V : Type 0} (ps : List (Portion K V)) → newest (map interval_of ps) ≡ option_map interval_of (newest ps)
newest_interval ps = ap (λ n. slice_get (map interval_of ps) (n - 1)) (length-map ps interval_of) ∙ slice_get-map interval_of ps (length ps - 1)

pub rest_intervals : {K V : Type 0} (ps : List (Portion K V)) → without_newest (map interval_of ps) ≡ map interval_of (without_newest ps)
rest_intervals ps = ap (λ n. take (n - 1) (map interval_of ps)) (length-map ps interval_of) ∙ take-map interval_of (length ps - 1) ps

pub oldest_interval : {K V : Type 0} (ps : List (Portion K V)) → oldest (map interval_of ps) ≡ option_map interval_of (oldest ps)
oldest_interval ps = slice_get-map interval_of ps 0

pub later_intervals : {K V : Type 0} (ps : List (Portion K V)) → without_oldest (map interval_of ps) ≡ map interval_of (without_oldest ps)
later_intervals [] = refl
later_intervals (p ∷ ps) = refl

pub map_append : {X Y : Type 0} (f : X → Y) (xs ys : List X) → map f (xs ++ ys) ≡ map f xs ++ map f ys
map_append f [] ys = refl
map_append f (x ∷ xs) ys = ap (λ zs. f x ∷ zs) (map_append f xs ys)

module _ {K V P : Type 0} where
  -- the worker of a number, by the state of that number
  worker_at : (ds : List (WorkerValue K V P)) (w : ℕ) (d : WorkerValue K V P) → w < length ds → worker (board ds) w ≡ worker_of (get_or ds w d)
  worker_at [] w d there = absurd (omega (arith, there))
  worker_at (x ∷ ds) zero d there = refl
  worker_at (x ∷ ds) (suc w) d there = worker_at ds w d (omega (arith, there))

  -- the same where the state was read
  pub worker_is : (ds : List (WorkerValue K V P)) (w : ℕ) (d : WorkerValue K V P) → w < length ds → d ≡ get_or ds w d → worker (board ds) w ≡ worker_of d
  worker_is ds w d there read = worker_at ds w d there ∙ ap worker_of (sym read)

  -- boards where a worker's queue or what it holds is another
  pub with_queue_is : (ds : List (WorkerValue K V P)) (w : ℕ) (d : WorkerValue K V P) (ps : List (Portion K V)) → w < length ds → d ≡ get_or ds w d
      → with_queue (board ds) w (map interval_of ps) ≡ board (set ds w (record d { queue = ps }))
  with_queue_is ds w d ps there read =
      ap (λ (x : Worker). set (board ds) w (record x { queue = map interval_of ps })) (worker_is ds w d there read)
      ∙ sym (map-set worker_of ds w (record d { queue = ps }))

  pub with_held_is : (ds : List (WorkerValue K V P)) (w : ℕ) (d : WorkerValue K V P) (o : Option (Portion K V)) → w < length ds → d ≡ get_or ds w d
      → with_held (board ds) w (option_map interval_of o) ≡ board (set ds w (record d { held = o }))
  with_held_is ds w d o there read =
      ap (λ (x : Worker). set (board ds) w (record x { held = option_map interval_of o })) (worker_is ds w d there read)
      ∙ sym (map-set worker_of ds w (record d { held = o }))

  -- a state that was put is read
  pub read_same : (ds : List (WorkerValue K V P)) (w : ℕ) (d : WorkerValue K V P) → w < length ds → d ≡ get_or (set ds w d) w d
  read_same ds w d there = sym (get_or-set_same ds w d d there)

  pub still_there : (ds : List (WorkerValue K V P)) (v w : ℕ) (d : WorkerValue K V P) → w < length ds → w < length (set ds v d)
  still_there ds v w d there = omega (arith, length-set ds v d)

  -- both change
  pub with_both_is : (ds : List (WorkerValue K V P)) (w : ℕ) (d : WorkerValue K V P) (ps : List (Portion K V)) (o : Option (Portion K V)) → w < length ds → d ≡ get_or ds w d
      → with_held (with_queue (board ds) w (map interval_of ps)) w (option_map interval_of o) ≡ board (set ds w (record d { queue = ps; held = o }))
  with_both_is ds w d ps o there read =
      let e : WorkerValue K V P = record d { queue = ps } in
      ap (λ (b : Board). with_held b w (option_map interval_of o)) (with_queue_is ds w d ps there read)
      ∙ with_held_is (set ds w e) w e o (still_there ds w w e there) (read_same ds w e there)
      ∙ ap board (set-set ds w e (record e { held = o }))

  pub results_at : (ds : List (WorkerValue K V P)) (w : ℕ) (d e : WorkerValue K V P) → result_of e ≡ result_of (get_or ds w d) → results (set ds w e) ≡ results ds
  results_at [] w d e same = refl
  results_at (x ∷ ds) zero d e same = ap (λ r. r ∷ results ds) same
  results_at (x ∷ ds) (suc w) d e same = ap (λ rs. result_of x ∷ rs) (results_at ds w d e same)

  -- one state changes, and keeps its part
  pub leaves_set : (ds : List (WorkerValue K V P)) (w : ℕ) (d e : WorkerValue K V P) (y : MoveResult) (move : MoveResult × Board)
      → w < length ds → d ≡ get_or ds w d → move ≡ (y, board (set ds w e)) → result_of e ≡ result_of d
      → ((m : Map K V) → HasPieces m d → HasPieces m e) → Leaves ds (set ds w e) y move
  leaves_set ds w d e y move there read is same kept = record {
    told_is = sym (ap (λ (t : MoveResult × Board). t.0) is);
    board_is = sym (ap (λ (t : MoveResult × Board). t.1) is);
    pieces = λ m all. All-set (HasPieces m) ds w e (kept m (subst (HasPieces m) (sym read) (All-get_or (HasPieces m) ds w d there all))) all;
    parts_stay = results_at ds w d e (same ∙ ap result_of read);
  }

  -- no state changes
  pub leaves_same : (ds : List (WorkerValue K V P)) (w : ℕ) (d e : WorkerValue K V P) (y : MoveResult) (move : MoveResult × Board)
      → d ≡ get_or ds w d → e ≡ d → move ≡ (y, board ds) → Leaves ds (set ds w e) y move
  leaves_same ds w d e y move read same is =
      let unchanged : set ds w e ≡ ds = ap (set ds w) (same ∙ read) ∙ set-get_or ds w d in
      subst (λ es. Leaves ds es y move) (sym unchanged) (record {
        told_is = sym (ap (λ (t : MoveResult × Board). t.0) is);
        board_is = sym (ap (λ (t : MoveResult × Board). t.1) is);
        pieces = λ m all. all;
        parts_stay = refl;
      })

  -- states with the same results have the same parts
  parts_shown_by : (ds : List (WorkerValue K V P)) → state_parts ds ≡ map (λ (r : P × List Interval). r.0) (results ds)
  parts_shown_by [] = refl
  parts_shown_by (d ∷ ds) = ap (λ ps. d.part ∷ ps) (parts_shown_by ds)

  pub same_state_parts : (ds es : List (WorkerValue K V P)) → results es ≡ results ds → state_parts es ≡ state_parts ds
  same_state_parts ds es same = parts_shown_by es ∙ ap (map (λ (r : P × List Interval). r.0)) same ∙ sym (parts_shown_by ds)
