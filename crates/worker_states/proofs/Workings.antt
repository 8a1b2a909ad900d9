-- What working leaves of a worker's state and of a board.
use Rattle.std.proofs.Common.{◌≡◌, ℕ, zero, suc, ◌+◌, ◌<◌, ◌≤◌, Bool, true, false, ◌||◌, cond, List, [], ◌∷◌, ◌++◌, length, map, get_or, set, Option, Some, None, refl, sym, ap, ◌∙◌, subst, arith}
use Rattle.std.specs.Prelude.{All, IfSome, MatchBool, ◌↔◌, option_map, option_to_list}
use Rattle.std.specs.List.{list_any}
use Rattle.std.specs.declared.cmp.Ordering.{Ordering}
use Rattle.std.proofs.lemmas.List.{map-set, set-set, set-get_or}
use Rattle.std.proofs.lemmas.List.Elements.{All-get_or, All-set}
use Rattle.std.proofs.lemmas.List.Sums.{sum_by-cons, sum_by-append}
use Rattle.hash_path.specs.Digits.{position}
use Rattle.trie_shape.specs.Map.{Map, IsMap, ShareNoKey, union}
use Rattle.versions.specs.declared.version.TheConstants.{MOST_PAIRS}
use Rattle.iter.specs.declared.interval.Interval.{Interval}
use Rattle.iter.specs.Intervals.{AreApart, lies_in, cover, part, parts}
use Rattle.splitter.specs.Portion.{Portion}
use Rattle.combiner.specs.Unions as unions
use Rattle.combiner.specs.Bulks.{Apart, IsJoined}
use Rattle.worker_states.specs.Boards.{Worker, Board, worker, with_worked, with_held, intervals, intervals_of, work, working, MoveResult, done, idle, tells_settled, TellsTruly}
use Rattle.worker_states.specs.WorkerValues.{WorkerValue, interval_of, worker_of, board, result_of, results, state_parts, HasPieces, HasPart, IsJobOn, CanWork, HasWorked, WorksHeld, Works, working_move}
use Rattle.worker_states.specs.WorkerValues.{PartsMove}
use Rattle.worker_states.proofs.Covers.{once}
use Rattle.worker_states.proofs.WorkerLemmas.{worker_is, read_same, still_there, with_held_is}

-- a flag that is true exactly where something is so tells the truth
pub tells_truly : (b : Bool) (D : Type 0) → (b ≡ true) ↔ D → MatchBool b D (D → ⊥)
tells_truly true D iff = iff.0 refl
tells_truly false D iff = λ d. let e = iff.1 d in cc

-- a position that lies in one of some intervals is covered
any_cover : (is : List Interval) (p : ℕ) → list_any (λ i. lies_in i p) is ≡ true → 1 ≤ cover is p
any_cover [] p e = cc
any_cover (i ∷ is) p e = by (lies_in i p) (list_any (λ i. lies_in i p) is) (cover is p) (sum_by-cons (λ x. once x p) i is) e (any_cover is p)
  where
    by : {n : ℕ} (a b : Bool) (c : ℕ) → n ≡ cond a 1 0 + c → (a || b) ≡ true → (b ≡ true → 1 ≤ c) → 1 ≤ n
    by true b c e any rest = omega (arith, e)
    by false b c e any rest = omega (arith, e, rest any)

-- two parts of a map by intervals that are apart have no more pairs together than the map
pub few_together : {K V : Type 0} (path : K → ℕ) (m : Map K V) (is js : List Interval) → AreApart (is ++ js) → length (parts path m is) + length (parts path m js) ≤ length m
few_together path [] is js apart = omega arith
few_together path (x ∷ m) is js apart =
    let p : ℕ = position (path x.0) in
    one (list_any (λ i. lies_in i p) is) (list_any (λ i. lies_in i p) js) x (parts path m is) (parts path m js) (length m) (few_together path m is js apart)
    (λ a b. omega (arith, any_cover is p a, any_cover js p b, sum_by-append (λ i. once i p) is js, apart p))
  where
    one : {X : Type 0} (a b : Bool) (x : X) (xs ys : List X) (n : ℕ) → length xs + length ys ≤ n → (a ≡ true → b ≡ true → ⊥) → length (cond a (x ∷ xs) xs) + length (cond b (x ∷ ys) ys) ≤ suc n
    one true true x xs ys n h clash = absurd (clash refl refl)
    one true false x xs ys n h clash = omega (arith, h)
    one false true x xs ys n h clash = omega (arith, h)
    one false false x xs ys n h clash = omega (arith, h)

module _ {K V : Type 0} (R : K → K → Ordering) (path : K → ℕ)
    (law_one : (m : Map K V) (i : Interval) → part path m i ≡ parts path m (i ∷ []))
    (law_map : (m : Map K V) (is : List Interval) → IsMap R m → IsMap R (parts path m is))
    (law_apart : (m : Map K V) (is js : List Interval) → AreApart (is ++ js) → ShareNoKey R (parts path m is) (parts path m js))
    (law_union : (m : Map K V) (is js : List Interval) → IsMap R m → parts path m (is ++ js) ≡ union R (parts path m is) (parts path m js))
  where
    -- what was worked and one interval more are apart
    pub maps_apart : (m : Map K V) (is : List Interval) (i : Interval) → IsMap R m → length m ≤ MOST_PAIRS → AreApart (is ++ i ∷ []) → unions.AreApart R (parts path m is) (part path m i)
    maps_apart m is i sorted few apart = subst (unions.AreApart R (parts path m is)) (sym (law_one m i)) (record {
      left = law_map m is sorted;
      right = law_map m (i ∷ []) sorted;
      apart = law_apart m is (i ∷ []) apart;
      few = omega (arith, few_together path m is (i ∷ []) apart, few);
    })

    -- the joined part answers both
    pub joined_answers : {P : Type 0} (answers : Map K V → P → Type 0) (m : Map K V) (is : List Interval) (i : Interval) (a b c : P) → IsMap R m → length m ≤ MOST_PAIRS → AreApart (is ++ i ∷ [])
        → answers (parts path m is) a → answers (part path m i) b → IsJoined R answers a b c → answers (parts path m (is ++ i ∷ [])) c
    joined_answers answers m is i a b c sorted few apart first second joined =
        let both : parts path m (is ++ i ∷ []) ≡ union R (parts path m is) (part path m i) = law_union m is (i ∷ []) sorted ∙ ap (union R (parts path m is)) (sym (law_one m i)) in
        subst (λ (n : Map K V). answers n c) (sym both) (joined (parts path m is) (part path m i) first second (maps_apart m is i sorted few apart))

module _ {K V P : Type 0} where
  pub result_at : (ds : List (WorkerValue K V P)) (w : ℕ) (d : WorkerValue K V P) → get_or (results ds) w (result_of d) ≡ result_of (get_or ds w d)
  result_at [] w d = refl
  result_at (x ∷ ds) zero d = refl
  result_at (x ∷ ds) (suc w) d = result_at ds w d

  -- what a worker has covers no more than all
  cover_at : (ds : List (WorkerValue K V P)) (w : ℕ) (d : WorkerValue K V P) (p : ℕ) → w < length ds → cover (intervals_of (worker_of (get_or ds w d))) p ≤ cover (intervals (board ds)) p
  cover_at [] w d p there = absurd (omega (arith, there))
  cover_at (x ∷ ds) zero d p there = omega (arith, sum_by-append (λ i. once i p) (intervals_of (worker_of x)) (intervals (board ds)))
  cover_at (x ∷ ds) (suc w) d p there = omega (arith, sum_by-append (λ i. once i p) (intervals_of (worker_of x)) (intervals (board ds)), cover_at ds w d p (omega (arith, there)))

  -- boards that differ in what no board shows
  same_board : (ds : List (WorkerValue K V P)) (w : ℕ) (d e : WorkerValue K V P) → worker_of d ≡ worker_of e → board (set ds w d) ≡ board (set ds w e)
  same_board ds w d e same = map-set worker_of ds w d ∙ ap (set (board ds) w) same ∙ sym (map-set worker_of ds w e)

  with_worked_is : (ds : List (WorkerValue K V P)) (w : ℕ) (d : WorkerValue K V P) (is : List Interval) → w < length ds → d ≡ get_or ds w d
      → with_worked (board ds) w is ≡ board (set ds w (record d { worked = is }))
  with_worked_is ds w d is there read =
      ap (λ (x : Worker). set (board ds) w (record x { worked = is })) (worker_is ds w d there read)
      ∙ sym (map-set worker_of ds w (record d { worked = is }))

module _ {K V P : Type 0} (R : K → K → Ordering) (path : K → ℕ) (answers : Map K V → P → Type 0) (m : Map K V) where
  -- each worker of a job may work what it holds
  pub can_work : (ds : List (WorkerValue K V P)) (w : ℕ) (d : WorkerValue K V P) → w < length ds → d ≡ get_or ds w d → IsJobOn R path answers m ds → CanWork R path answers m d
  can_work ds w d there read job = record {
    sorted = job.sorted;
    few = job.few;
    pieces = subst (HasPieces m) (sym read) (All-get_or (HasPieces m) ds w d there job.pieces);
    answered = subst (HasPart R path answers m) (result_at ds w d ∙ ap result_of (sym read)) (All-get_or (HasPart R path answers m) (results ds) w (result_of d) (omega (arith, length_results ds, there)) job.answered);
    apart = λ p. subst (λ (x : WorkerValue K V P). cover (x.worked ++ option_to_list (option_map interval_of x.held)) p ≤ 1) (sym read) (omega (arith, cover_at ds w d p there, job.apart p, fewer (get_or ds w d) p));
  }
    where
      length_results : (ds : List (WorkerValue K V P)) → length (results ds) ≡ length ds
      length_results [] = refl
      length_results (x ∷ ds) = ap suc (length_results ds)

      fewer : (x : WorkerValue K V P) (p : ℕ) → cover (x.worked ++ option_to_list (option_map interval_of x.held)) p ≤ cover (intervals_of (worker_of x)) p
      fewer x p =
          let queue = map interval_of x.queue in
          let held = option_to_list (option_map interval_of x.held) in
          omega (arith, sum_by-append (λ i. once i p) x.worked held, sum_by-append (λ i. once i p) (queue ++ held) x.worked, sum_by-append (λ i. once i p) queue held)

  abbrev size : Interval → ℕ
  size i = length (part path m i)

  works_by : (D : Map K V → Type 0) (ds : List (WorkerValue K V P)) (w : ℕ) (d e : WorkerValue K V P) (y : MoveResult) (o : Option (Portion K V)) → w < length ds → d ≡ get_or ds w d
      → IsJobOn R path answers m ds → d.held ≡ o → WorksHeld R path answers m D d o y e → Works R path answers m D ds w y (set ds w e)
  works_by D ds w d e y None there read job held works =
      let same : set ds w e ≡ ds = ap (set ds w) (works.1 ∙ read) ∙ set-get_or ds w d in
      let move : working_move size (tells_settled y) ds w ≡ (idle, board ds) =
      ap (λ (x : Worker). work size (tells_settled y) (board ds) w x.held) (worker_is ds w d there read) ∙ ap (λ (q : Option (Portion K V)). work size (tells_settled y) (board ds) w (option_map interval_of q)) held in
      subst (λ es. Works R path answers m D ds w y es) (sym same) (record {
        told_is = works.0 ∙ ap (λ (t : MoveResult × Board). t.0) (sym move);
        board_is = sym (ap (λ (t : MoveResult × Board). t.1) move);
        pieces = job.pieces;
        answered = job.answered;
        truly = subst (λ (t : MoveResult). TellsTruly t (D (parts path m (worker (board ds) w).worked))) (sym works.0) tt;
      })
  works_by D ds w d e y (Some p) there read job held works =
      let f : WorkerValue K V P = record d { worked = d.worked ++ p.interval ∷ [] } in
      let b : Board = board ds in
      let move : working_move size (tells_settled y) ds w ≡ work size (tells_settled y) b w (Some p.interval) =
      ap (λ (x : Worker). work size (tells_settled y) b w x.held) (worker_is ds w d there read) ∙ ap (λ (q : Option (Portion K V)). work size (tells_settled y) b w (option_map interval_of q)) held in
      let first : with_worked b w ((worker b w).worked ++ p.interval ∷ []) ≡ board (set ds w f) =
      ap (λ (x : Worker). with_worked b w (x.worked ++ p.interval ∷ [])) (worker_is ds w d there read) ∙ with_worked_is ds w d (d.worked ++ p.interval ∷ []) there read in
      let after : with_held (with_worked b w ((worker b w).worked ++ p.interval ∷ [])) w None ≡ board (set ds w e) =
      ap (λ (c : Board). with_held c w None) first
      ∙ with_held_is (set ds w f) w f None (still_there ds w w f there) (read_same ds w f there)
      ∙ ap board (set-set ds w f (record f { held = None }))
      ∙ same_board ds w (record f { held = None }) e (sym (ap worker_of works.left)) in
      record {
        told_is = works.told_is ∙ ap (λ (t : MoveResult × Board). t.0) (sym move);
        board_is = sym (ap (λ (t : MoveResult × Board). t.1) move ∙ after);
        pieces = All-set (HasPieces m) ds w e (subst (HasPieces m) (sym works.left) (record { queue = (subst (HasPieces m) (sym read) (All-get_or (HasPieces m) ds w d there job.pieces)).queue; held = tt })) job.pieces;
        answered = subst (All (HasPart R path answers m)) (sym (map-set result_of ds w e)) (All-set (HasPart R path answers m) (results ds) w (result_of e) works.answered job.answered);
        truly = subst (λ (x : Worker). TellsTruly y (D (parts path m x.worked))) (sym (worker_is (set ds w e) w e (still_there ds w w e there) (read_same ds w e there))) works.truly;
      }

  -- a worker of a job works
  pub works_on : (D : Map K V → Type 0) (ds : List (WorkerValue K V P)) (w : ℕ) (d e : WorkerValue K V P) (y : MoveResult) → w < length ds → d ≡ get_or ds w d
      → IsJobOn R path answers m ds → WorksHeld R path answers m D d d.held y e → Works R path answers m D ds w y (set ds w e)
  works_on D ds w d e y there read job works = works_by D ds w d e y d.held there read job refl works

  -- and the others keep their parts
  works_parts_by : (D : Map K V → Type 0) (ds : List (WorkerValue K V P)) (w : ℕ) (d e : WorkerValue K V P) (y : MoveResult) (o : Option (Portion K V)) → d ≡ get_or ds w d
      → WorksHeld R path answers m D d o y e → PartsMove (state_parts ds) (working w) y (state_parts (set ds w e))
  works_parts_by D ds w d e y None read works =
      subst (λ (t : MoveResult). PartsMove (state_parts ds) (working w) t (state_parts (set ds w e))) (sym works.0) (ap state_parts (ap (set ds w) (works.1 ∙ read) ∙ set-get_or ds w d))
  works_parts_by D ds w d e y (Some p) read works =
      subst (λ (t : MoveResult). PartsMove (state_parts ds) (working w) t (state_parts (set ds w e))) (sym works.told_is) (e.part, map-set (λ (x : WorkerValue K V P). x.part) ds w e)

  pub works_parts : (D : Map K V → Type 0) (ds : List (WorkerValue K V P)) (w : ℕ) (d e : WorkerValue K V P) (y : MoveResult) → d ≡ get_or ds w d
      → WorksHeld R path answers m D d d.held y e → PartsMove (state_parts ds) (working w) y (state_parts (set ds w e))
  works_parts D ds w d e y read works = works_parts_by D ds w d e y d.held read works

module _ {K V P : Type 0} (R : K → K → Ordering) (path : K → ℕ)
    (law_one : (m : Map K V) (i : Interval) → part path m i ≡ parts path m (i ∷ []))
    (law_map : (m : Map K V) (is : List Interval) → IsMap R m → IsMap R (parts path m is))
    (law_apart : (m : Map K V) (is js : List Interval) → AreApart (is ++ js) → ShareNoKey R (parts path m is) (parts path m js))
    (law_union : (m : Map K V) (is js : List Interval) → IsMap R m → parts path m (is ++ js) ≡ union R (parts path m is) (parts path m js))
    (answers : Map K V → P → Type 0) (m : Map K V) (d : WorkerValue K V P) (p : Portion K V) (made : P)
    (can : CanWork R path answers m d) (held : d.held ≡ Some p) (has : answers (part path p.map p.interval) made)
  where
    of_map : p.map ≡ m
    of_map = subst (λ (o : Option (Portion K V)). IfSome o (λ q. q.map ≡ m)) held can.pieces.held

    held_apart : AreApart (d.worked ++ p.interval ∷ [])
    held_apart = subst (λ (o : Option (Portion K V)). AreApart (d.worked ++ option_to_list (option_map interval_of o))) held can.apart

    has_part : answers (part path m p.interval) made
    has_part = subst (λ (n : Map K V). answers (part path n p.interval) made) of_map has

    -- the part of what is held may be joined
    pub may_join : Apart R answers d.part made
    may_join = record {
      first = parts path m d.worked;
      second = part path m p.interval;
      first_is = can.answered;
      second_is = has_part;
      apart = maps_apart R path law_one law_map law_apart law_union m d.worked p.interval can.sorted can.few held_apart;
    }

    -- and the joined part is that of all that was worked
    pub has_worked : (D : Map K V → Type 0) (joined : P) (settled : Bool) → IsJoined R answers d.part made joined → ((n : Map K V) → answers n joined → (settled ≡ true) ↔ D n)
        → HasWorked R path answers m D d p (done p.interval.lo p.interval.hi (length (part path p.map p.interval)) settled) (record d { held = None; part = joined; worked = d.worked ++ p.interval ∷ [] })
    has_worked D joined settled join exact =
        let all = joined_answers R path law_one law_map law_apart law_union answers m d.worked p.interval d.part made joined can.sorted can.few held_apart can.answered has_part join in
        record {
          told_is = ap (λ (n : Map K V). done p.interval.lo p.interval.hi (length (part path n p.interval)) settled) of_map;
          left = refl;
          answered = all;
          truly = tells_truly settled (D (parts path m (d.worked ++ p.interval ∷ []))) (exact (parts path m (d.worked ++ p.interval ∷ [])) all);
        }
