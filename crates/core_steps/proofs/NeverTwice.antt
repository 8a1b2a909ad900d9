-- Over a run no position of a job is worked twice.
use Rattle.std.proofs.Common.{◌≡◌, ℕ, ◌+◌, ◌<◌, ◌≤◌, ◌==◌, Bool, true, false, not, cond, nat_lt, nat_le, List, [], ◌∷◌, length, Option, Some, None, is_some, refl, sym, ap, ◌∙◌, subst, inl, inr, arith}
use Rattle.std.specs.Prelude.{All, unwrap_or}
use Rattle.std.specs.List.{list_any}
use Rattle.std.specs.Ordering.{nat_cmp, eq_by_cmp}
use Rattle.std.proofs.lemmas.Bool.{cases_Bool, le-ltb, lt-ltb}
use Rattle.std.proofs.lemmas.Bool.Decides.{nat_tests}
use Rattle.std.proofs.lemmas.List.Sums.{sum_by-cons}
use Rattle.versions.specs.Map.{Map, value_at, with_pair, without, is_other}
use Rattle.versions.specs.declared.refusal.Refusal.{Refusal}
use Rattle.versions.specs.declared.refusal.Refusal.TheVariants.{NoJob, NoWorker}
use Rattle.handles.specs.Machine.{Kind, State, Job, Request, open_handle, snapshot, drop_handle, on, view, freeze, finish, abandon, worker_step, Outcome, made, replied, viewed, frozen, finished, unfinished, refused, worked, Step, job_at}
use Rattle.iter.specs.declared.interval.Interval.{Interval}
use Rattle.iter.specs.Intervals.{whole, lies_in, cover, AreApart, part}
use Rattle.worker_states.proofs.Covers.{once}
use Rattle.splitter.specs.Cuts.{cut_point}
use Rattle.worker_states.specs.Boards.{Board, Move, taking, stealing, splitting, working, named_by, first_board, all_worked, MoveResult, took, cut, uncut, done, idle, tells_settled}
use Rattle.core_steps.specs.Cores.{CoreState, Asked, of_client, of_worker, CoreOutcome, to_client, to_worker, no_move, Division, WorkerMoves, moved_job, board_of, frozen_map, refusal_of, boards_after}
use Rattle.core_steps.specs.Traces.{covered, CoreRun}
use Rattle.core_steps.specs.Invariants.{IsBoard, IsCore}
use Rattle.core_steps.proofs.KeptBoards.{CutsWithin}
use Rattle.core_steps.proofs.Tilings.{weights}
use Rattle.core_steps.proofs.Coverings.{worked_by, moved_done}
use Rattle.core_steps.proofs.KeptCores.{at_put, at_without, neither, all_below, its_board, not_false, step_kept}

worked_once : (n : ℕ) (b : Board) (p : ℕ) → IsBoard n b → cover (all_worked b) p ≤ 1
worked_once n b p is = omega (arith, weights (λ i. once i p) b, is.tile p, at_most (lies_in whole p))
  where
    at_most : (t : Bool) → cond t 1 0 ≤ 1
    at_most true = omega arith
    at_most false = omega arith

-- spent, by what there is at the number
abbrev by_parts : Bool → Option Board → ℕ → ℕ → ℕ → ℕ
by_parts there b next j p = cond there (cover (all_worked (unwrap_or b [])) p) (cond (nat_lt j next) 1 0)

module _ {K V Q : Type 0} where
  -- how often a position of a job counts as worked: as the board says while the job is open, once when it is closed, never before it is opened
  abbrev pub spent : CoreState K V Q → ℕ → ℕ → ℕ
  spent s j p = cond (is_some (job_at s.machine j)) (cover (all_worked (board_of s j)) p) (cond (nat_lt j s.machine.next) 1 0)

  pub spent_once : (s : CoreState K V Q) (j p : ℕ) → IsCore s → spent s j p ≤ 1
  spent_once s j p is = by (is_some (job_at s.machine j)) refl
    where
      closed : (t : Bool) → cond t 1 0 ≤ 1
      closed true = omega arith
      closed false = omega arith

      by : (t : Bool) → is_some (job_at s.machine j) ≡ t → cond t (cover (all_worked (board_of s j)) p) (cond (nat_lt j s.machine.next) 1 0) ≤ 1
      by true e = worked_once s.workers (board_of s j) p (its_board (IsBoard s.workers) (value_at nat_cmp s.boards j) (is.matches j ∙ e) (is.boards j))
      by false e = closed (nat_lt j s.machine.next)

  same_spent : (s : CoreState K V Q) (m : State K V Q) (j p : ℕ) → m.jobs ≡ s.machine.jobs → m.next ≡ s.machine.next → spent s j p ≤ spent (record s { machine = m }) j p
  same_spent s m j p jobs next =
      let e : spent (record s { machine = m }) j p ≡ spent s j p =
      λ i. cond (is_some (value_at nat_cmp (jobs i) j)) (cover (all_worked (board_of s j)) p) (cond (nat_lt j (next i)) 1 0) in
      omega (arith, e)

  more_spent : (s : CoreState K V Q) (m : State K V Q) (j : ℕ) (x : Job K V Q) (b : Board) (q p : ℕ) → m.jobs ≡ with_pair nat_cmp s.machine.jobs j x → m.next ≡ s.machine.next + 1 → j ≡ s.machine.next → IsCore s
      → spent s q p ≤ spent (record s { machine = m; boards = with_pair nat_cmp s.boards j b }) q p
  more_spent s m j x b q p jobs next new is =
      let now : job_at m q ≡ cond (eq_by_cmp nat_cmp q j) (Some x) (job_at s.machine q) = ap (λ js. value_at nat_cmp js q) jobs ∙ at_put s.machine.jobs j q x in
      let after : spent (record s { machine = m; boards = with_pair nat_cmp s.boards j b }) q p ≡ by_parts (is_some (cond (eq_by_cmp nat_cmp q j) (Some x) (job_at s.machine q))) (cond (eq_by_cmp nat_cmp q j) (Some b) (value_at nat_cmp s.boards q)) (s.machine.next + 1) q p =
      λ i. by_parts (is_some (now i)) (at_put s.boards j q b i) (next i) q p in
      elim (cases_Bool (eq_by_cmp nat_cmp q j)) [
        | inl e ↦
            let here : q ≡ s.machine.next = grind (arith, nat_tests, e, new) in
            let none = never s.machine.next q (is_some (job_at s.machine q)) (cover (all_worked (board_of s q)) p) (λ h. is.numbers q h) (omega (arith, here)) in omega (arith, none)
        | inr e ↦
            let old : by_parts (is_some (cond (eq_by_cmp nat_cmp q j) (Some x) (job_at s.machine q))) (cond (eq_by_cmp nat_cmp q j) (Some b) (value_at nat_cmp s.boards q)) (s.machine.next + 1) q p ≡ by_parts (is_some (job_at s.machine q)) (value_at nat_cmp s.boards q) (s.machine.next + 1) q p =
            λ i. by_parts (is_some (cond (e i) (Some x) (job_at s.machine q))) (cond (e i) (Some b) (value_at nat_cmp s.boards q)) (s.machine.next + 1) q p in
            omega (arith, after, old, later (is_some (job_at s.machine q)) (cover (all_worked (board_of s q)) p) q s.machine.next)
      ]
    where
      -- a number that is not below the next one is not open, and counts nothing
      never : (next q : ℕ) (there : Bool) (c : ℕ) → (there ≡ true → q < next) → next ≤ q → cond there c (cond (nat_lt q next) 1 0) ≡ 0
      never next q true c h le = absurd (omega (arith, h refl, le))
      never next q false c h le = ap (λ t. cond t 1 0) (le-ltb q next le)

      later : (there : Bool) (c q next : ℕ) → cond there c (cond (nat_lt q next) 1 0) ≤ cond there c (cond (nat_lt q (next + 1)) 1 0)
      later true c q next = omega arith
      later false c q next = grind (arith, nat_tests)

  less_spent : (s : CoreState K V Q) (m : State K V Q) (j q p : ℕ) → m.jobs ≡ without nat_cmp s.machine.jobs j → m.next ≡ s.machine.next → IsCore s
      → spent s q p ≤ spent (record s { machine = m; boards = without nat_cmp s.boards j }) q p
  less_spent s m j q p jobs next is =
      let now : job_at m q ≡ cond (is_other nat_cmp j q) (job_at s.machine q) None = ap (λ js. value_at nat_cmp js q) jobs ∙ at_without s.machine.jobs j q in
      let after : spent (record s { machine = m; boards = without nat_cmp s.boards j }) q p ≡ by_parts (is_some (cond (is_other nat_cmp j q) (job_at s.machine q) None)) (cond (is_other nat_cmp j q) (value_at nat_cmp s.boards q) None) s.machine.next q p =
      λ i. by_parts (is_some (now i)) (at_without s.boards j q i) (next i) q p in
      omega (arith, after, kept (is_other nat_cmp j q) (job_at s.machine q) (value_at nat_cmp s.boards q) (λ h. is.numbers q h) (spent_once s q p is))
    where
      kept : (t : Bool) (o : Option (Job K V Q)) (b : Option Board) → (is_some o ≡ true → q < s.machine.next) → by_parts (is_some o) b s.machine.next q p ≤ 1
          → by_parts (is_some o) b s.machine.next q p ≤ by_parts (is_some (cond t o None)) (cond t b None) s.machine.next q p
      kept true o b h most = omega arith
      kept false None b h most = omega arith
      kept false (Some x) b h most = let past : cond (nat_lt q s.machine.next) 1 0 ≡ 1 = ap (λ (t : Bool). cond {A = ℕ} t 1 0) (lt-ltb q s.machine.next (h refl)) in omega (arith, most, past)

-- what a worker's step adds to the covering of a job
covered_one : {K V Q B : Type 0} (q j : ℕ) (x : Move) (y : MoveResult) (xs : List (Asked K V Q)) (ys : List (CoreOutcome K V B)) (p : ℕ)
    → cover (covered q (of_worker j x ∷ xs) (to_worker y ∷ ys)) p ≤ cond (j == q) (cover (worked_by y) p) 0 + cover (covered q xs ys) p
covered_one q j (taking w) y xs ys p = omega arith
covered_one q j (stealing w from) y xs ys p = omega arith
covered_one q j (splitting w) y xs ys p = omega arith
covered_one q j (working w) (took lo hi) xs ys p = omega arith
covered_one q j (working w) (cut lo mid hi) xs ys p = omega arith
covered_one q j (working w) uncut xs ys p = omega arith
covered_one q j (working w) idle xs ys p = omega arith
covered_one q j (working w) (done lo hi n settled) xs ys p = at (j == q) (record { lo = lo; hi = hi }) (covered q xs ys)
  where
    at : (t : Bool) (i : Interval) (is : List Interval) → cover (cond t (i ∷ is) is) p ≤ cond t (cover (i ∷ []) p) 0 + cover is p
    at true i is = omega (arith, sum_by-cons (λ x. once x p) i is, sum_by-cons (λ x. once x p) i [])
    at false i is = omega arith

module _ {K V Q : Type 0} (division : Division K V Q) (cuts : (m : Map K V) (grain : ℕ) → CutsWithin (λ i. cut_point division.path m i grain)) where
  worker_spent : (s : CoreState K V Q) (j : ℕ) (x : Move) (y : MoveResult) (t : CoreState K V Q) (q p : ℕ) → refusal_of s j x ≡ None → WorkerMoves division s j x y t → IsCore s
      → cond (j == q) (cover (worked_by y) p) 0 + spent s q p ≤ spent t q p
  worker_spent s j x y t q p none move is =
      let both = neither (not (is_some (job_at s.machine j))) (list_any (λ w. nat_le s.workers w) (named_by x)) NoJob NoWorker none in
      let there = not_false (is_some (job_at s.machine j)) both.0 in
      let board : IsBoard s.workers (board_of s j) = its_board (IsBoard s.workers) (value_at nat_cmp s.boards j) (is.matches j ∙ there) (is.boards j) in
      let named : All (λ w. w < length (board_of s j)) (named_by x) = subst (λ n. All (λ w. w < n) (named_by x)) (sym board.long) (all_below s.workers (named_by x) both.1) in
      let after : Board = (moved_job division s j x (tells_settled y)).1 in
      let more = moved_done (λ i. once i p) (λ i. cut_point division.path (frozen_map s j) i s.grain) (λ i. length (part division.path (frozen_map s j) i)) (tells_settled y) (board_of s j) x named in
      let told : cover (worked_by (moved_job division s j x (tells_settled y)).0) p ≡ cover (worked_by y) p = ap (λ z. cover (worked_by z) p) (sym move.told) in
      let left : spent t q p ≡ by_parts (is_some (job_at s.machine q)) (cond (eq_by_cmp nat_cmp q j) (Some after) (value_at nat_cmp s.boards q)) s.machine.next q p =
      ap (λ (c : CoreState K V Q). spent c q p) move.left ∙ ap (λ b. by_parts (is_some (job_at s.machine q)) b s.machine.next q p) (at_put s.boards j q after) in
      elim (cases_Bool (j == q)) [
        | inl e ↦
            let same : q ≡ j = grind (arith, nat_tests, e) in
            let tied : eq_by_cmp nat_cmp q j ≡ true = grind (arith, nat_tests, same) in
            let here : is_some (job_at s.machine q) ≡ true = ap (λ n. is_some (job_at s.machine n)) same ∙ there in
            let old : spent s q p ≡ cover (all_worked (board_of s j)) p = ap (λ b. cond b (cover (all_worked (board_of s q)) p) (cond (nat_lt q s.machine.next) 1 0)) here ∙ ap (λ n. cover (all_worked (board_of s n)) p) same in
            let new : by_parts (is_some (job_at s.machine q)) (cond (eq_by_cmp nat_cmp q j) (Some after) (value_at nat_cmp s.boards q)) s.machine.next q p ≡ cover (all_worked after) p =
            λ i. by_parts (here i) (cond (tied i) (Some after) (value_at nat_cmp s.boards q)) s.machine.next q p in
            let add : cond (j == q) (cover (worked_by y) p) 0 ≡ cover (worked_by y) p = ap (λ b. cond b (cover (worked_by y) p) 0) e in
            omega (arith, left, old, new, add, more, told)
        | inr e ↦
            let apart : eq_by_cmp nat_cmp q j ≡ false = grind (arith, nat_tests, e) in
            let new : by_parts (is_some (job_at s.machine q)) (cond (eq_by_cmp nat_cmp q j) (Some after) (value_at nat_cmp s.boards q)) s.machine.next q p ≡ spent s q p =
            λ i. by_parts (is_some (job_at s.machine q)) (cond (apart i) (Some after) (value_at nat_cmp s.boards q)) s.machine.next q p in
            let add : cond (j == q) (cover (worked_by y) p) 0 ≡ 0 = ap (λ b. cond b (cover (worked_by y) p) 0) e in
            omega (arith, left, new, add)
      ]

module _ {K V Q A B : Type 0} (kind : Kind K V Q A B) where
  client_spent : (s : CoreState K V Q) (r : Request K V Q) (o : Outcome K V B) (m : State K V Q) (q p : ℕ) → Step kind s.machine r o m → IsCore s → spent s q p ≤ spent (record s { machine = m; boards = boards_after s r o }) q p
  client_spent s (open_handle h) made m q p step is = same_spent s m q p (ap (λ (x : State K V Q). x.jobs) step.1) (ap (λ (x : State K V Q). x.next) step.1)
  client_spent s (snapshot h to) made m q p step is = same_spent s m q p (ap (λ (x : State K V Q). x.jobs) step.1) (ap (λ (x : State K V Q). x.next) step.1)
  client_spent s (drop_handle h) made m q p step is = same_spent s m q p (ap (λ (x : State K V Q). x.jobs) step.1) (ap (λ (x : State K V Q). x.next) step.1)
  client_spent s (on h c) (replied y) m q p step is = same_spent s m q p (ap (λ (x : State K V Q). x.jobs) step.1.1) (ap (λ (x : State K V Q). x.next) step.1.1)
  client_spent s (view h) (viewed n) m q p step is = same_spent s m q p (ap (λ (x : State K V Q). x.jobs) step.1.1) (ap (λ (x : State K V Q). x.next) step.1.1)
  client_spent s (freeze h k) (frozen j n) m q p step is = more_spent s m j (record { query = k; frozen = n }) (first_board s.workers) q p (ap (λ (x : State K V Q). x.jobs) step.1.2) (ap (λ (x : State K V Q). x.next) step.1.2) step.1.0 is
  client_spent s (finish j) (finished b) m q p step is = less_spent s m j q p (ap (λ (x : State K V Q). x.jobs) step.1.left) (ap (λ (x : State K V Q). x.next) step.1.left) is
  client_spent s (finish j) unfinished m q p step is = same_spent s m q p (ap (λ (x : State K V Q). x.jobs) step.1) (ap (λ (x : State K V Q). x.next) step.1)
  client_spent s (abandon j) made m q p step is = less_spent s m j q p (ap (λ (x : State K V Q). x.jobs) step.1) (ap (λ (x : State K V Q). x.next) step.1) is
  client_spent s worker_step worked m q p step is = same_spent s m q p (ap (λ (x : State K V Q). x.jobs) step.1) (ap (λ (x : State K V Q). x.next) step.1)
  client_spent s r (refused e) m q p step is = same_spent s m q p (ap (λ (x : State K V Q). x.jobs) step.1) (ap (λ (x : State K V Q). x.next) step.1)
  client_spent s r o m q p step is = absurd step.1

module _ {K V Q A B : Type 0} (kind : Kind K V Q A B) (division : Division K V Q) (cuts : (m : Map K V) (grain : ℕ) → CutsWithin (λ i. cut_point division.path m i grain)) where
  -- what a run works of a job, and what was worked before, has each position once at most
  pub run_spends : (s t : CoreState K V Q) (xs : List (Asked K V Q)) (ys : List (CoreOutcome K V B)) (q p : ℕ) → CoreRun kind division s xs ys t → IsCore s → cover (covered q xs ys) p + spent s q p ≤ 1
  run_spends s t [] [] q p run is = omega (arith, spent_once s q p is)
  run_spends s t [] (y ∷ ys) q p run is = absurd run
  run_spends s t (x ∷ xs) [] q p run is = absurd run
  run_spends s t (of_client r ∷ xs) (to_client o ∷ ys) q p (u, step, rest) is =
      let next = run_spends u t xs ys q p rest (step_kept kind division cuts s (of_client r) (to_client o) u step is) in
      let less = client_spent kind s r o step.0 q p step.1 is in
      omega (arith, next, less, ap (λ (c : CoreState K V Q). spent c q p) step.3)
  run_spends s t (of_client r ∷ xs) (to_worker y ∷ ys) q p (u, step, rest) is = absurd step
  run_spends s t (of_client r ∷ xs) (no_move e ∷ ys) q p (u, step, rest) is = absurd step
  run_spends s t (of_worker j x ∷ xs) (to_client o ∷ ys) q p (u, step, rest) is = absurd step
  run_spends s t (of_worker j x ∷ xs) (to_worker y ∷ ys) q p (u, step, rest) is =
      let next = run_spends u t xs ys q p rest (step_kept kind division cuts s (of_worker j x) (to_worker y) u step is) in
      omega (arith, next, worker_spent division cuts s j x y u q p step.0 step.1 is, covered_one q j x y xs ys p)
  run_spends s t (of_worker j x ∷ xs) (no_move e ∷ ys) q p (u, step, rest) is =
      let next = run_spends u t xs ys q p rest (step_kept kind division cuts s (of_worker j x) (no_move e) u step is) in
      omega (arith, next, ap (λ (c : CoreState K V Q). spent c q p) step.1, no_more j x xs ys e)
    where
      no_more : (j : ℕ) (x : Move) (xs : List (Asked K V Q)) (ys : List (CoreOutcome K V B)) (e : Refusal) → cover (covered q (of_worker j x ∷ xs) (no_move e ∷ ys)) p ≡ cover (covered q xs ys) p
      no_more j (taking w) xs ys e = refl
      no_more j (stealing w from) xs ys e = refl
      no_more j (splitting w) xs ys e = refl
      no_more j (working w) xs ys e = refl

  -- the intervals that a run works of a job never share a position
  pub never_twice : (s t : CoreState K V Q) (xs : List (Asked K V Q)) (ys : List (CoreOutcome K V B)) (q : ℕ) → CoreRun kind division s xs ys t → IsCore s → AreApart (covered q xs ys)
  never_twice s t xs ys q run is p = omega (arith, run_spends s t xs ys q p run is)
