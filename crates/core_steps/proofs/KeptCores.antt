-- Each step of the core keeps what is true of a core.
use Rattle.std.proofs.Common.{◌≡◌, ℕ, ◌+◌, ◌<◌, ◌≤◌, Bool, true, false, not, ◌||◌, cond, nat_le, List, [], ◌∷◌, length, Option, Some, None, is_some, refl, sym, ap, ◌∙◌, subst, inl, inr, arith}
use Rattle.std.specs.Prelude.{All, IfSome, unwrap_or}
use Rattle.std.specs.List.{list_any}
use Rattle.std.specs.Ordering.{nat_cmp, eq_by_cmp}
use Rattle.std.specs.Cmp.{nat_cmp_total}
use Rattle.std.specs.FinMap.Entries.{find-put, find-where_key}
use Rattle.std.specs.FinMap.{nat_cmp-IsAntisymmetric}
use Rattle.std.proofs.lemmas.Bool.{cases_Bool, leb-false}
use Rattle.std.proofs.lemmas.Bool.Decides.{nat_tests}
use Rattle.std.proofs.lemmas.List.Elements.{All-nil, All-cons}
use Rattle.versions.specs.Map.{Map, value_at, with_pair, without, is_other}
use Rattle.versions.specs.declared.refusal.Refusal.{Refusal}
use Rattle.versions.specs.declared.refusal.Refusal.TheVariants.{NoJob, NoWorker}
use Rattle.handles.specs.declared.limits.Limits.{Limits}
use Rattle.handles.specs.Machine.{Kind, State, Job, Request, open_handle, snapshot, drop_handle, on, view, freeze, finish, abandon, worker_step, Outcome, made, replied, viewed, frozen, finished, unfinished, refused, worked, Step, job_at, first_of}
use Rattle.iter.specs.Intervals.{part}
use Rattle.splitter.specs.Cuts.{cut_point}
use Rattle.worker_states.specs.Boards.{Board, Move, named_by, first_board, MoveResult, tells_settled}
use Rattle.core_steps.specs.Cores.{CoreState, Asked, of_client, of_worker, CoreOutcome, to_client, to_worker, no_move, Division, WorkerMoves, moved_job, board_of, frozen_map, refusal_of, boards_after, CoreStep, new_core}
use Rattle.core_steps.specs.Invariants.{IsBoard, IsCore}
use Rattle.core_steps.proofs.KeptBoards.{CutsWithin, board_kept, first_is_board}

-- what stands at a number after one is put or taken away
pub at_put : {X : Type 0} (m : Map ℕ X) (j q : ℕ) (x : X) → value_at nat_cmp (with_pair nat_cmp m j x) q ≡ cond (eq_by_cmp nat_cmp q j) (Some x) (value_at nat_cmp m q)
at_put m j q x = find-put nat_cmp nat_cmp_total q j x m

pub at_without : {X : Type 0} (m : Map ℕ X) (j q : ℕ) → value_at nat_cmp (without nat_cmp m j) q ≡ cond (is_other nat_cmp j q) (value_at nat_cmp m q) None
at_without m j q = find-where_key nat_cmp (is_other nat_cmp j) q (λ x e. ap (is_other nat_cmp j) (sym (nat_cmp-IsAntisymmetric q x e))) m

module _ {K V Q : Type 0} where
  -- the machine changes, and no job is opened or closed
  same_jobs : (s : CoreState K V Q) (m : State K V Q) → m.jobs ≡ s.machine.jobs → m.next ≡ s.machine.next → IsCore s → IsCore (record s { machine = m })
  same_jobs s m jobs next is = record {
    some = is.some;
    matches = λ j. is.matches j ∙ ap (λ js. is_some (value_at nat_cmp js j)) (sym jobs);
    numbers = λ j there. omega (arith, next, is.numbers j (ap (λ js. is_some (value_at nat_cmp js j)) (sym jobs) ∙ there));
    boards = is.boards;
  }

  -- a job is opened, with the first board
  one_more : (s : CoreState K V Q) (m : State K V Q) (j : ℕ) (x : Job K V Q) → m.jobs ≡ with_pair nat_cmp s.machine.jobs j x → m.next ≡ s.machine.next + 1 → j ≡ s.machine.next → IsCore s
      → IsCore (record s { machine = m; boards = with_pair nat_cmp s.boards j (first_board s.workers) })
  one_more s m j x jobs next new is =
      let now : (q : ℕ) → job_at m q ≡ cond (eq_by_cmp nat_cmp q j) (Some x) (job_at s.machine q) = λ q. ap (λ js. value_at nat_cmp js q) jobs ∙ at_put s.machine.jobs j q x in
      record {
        some = is.some;
        matches = λ q. ap is_some (at_put s.boards j q (first_board s.workers)) ∙ both (eq_by_cmp nat_cmp q j) (first_board s.workers) x (value_at nat_cmp s.boards q) (job_at s.machine q) (is.matches q) ∙ sym (ap is_some (now q));
        numbers = λ q there. elim (cases_Bool (eq_by_cmp nat_cmp q j)) [
          | inl e ↦ omega (arith, next, new, same q j e)
          | inr e ↦ omega (arith, next, is.numbers q (sym (ap is_some (now q) ∙ ap (λ b. is_some (cond b (Some x) (job_at s.machine q))) e) ∙ there))
        ];
        boards = λ q. subst (λ o. IfSome o (IsBoard s.workers)) (sym (at_put s.boards j q (first_board s.workers))) (put_board (eq_by_cmp nat_cmp q j) (first_board s.workers) (value_at nat_cmp s.boards q) (first_is_board s.workers is.some) (is.boards q));
      }
    where
      both : {X Y : Type 0} (b : Bool) (x : X) (y : Y) (o : Option X) (p : Option Y) → is_some o ≡ is_some p → is_some (cond b (Some x) o) ≡ is_some (cond b (Some y) p)
      both true x y o p e = refl
      both false x y o p e = e

      same : (q j : ℕ) → eq_by_cmp nat_cmp q j ≡ true → q ≡ j
      same q j e = grind (arith, nat_tests, e)

      put_board : {n : ℕ} (b : Bool) (x : Board) (o : Option Board) → IsBoard n x → IfSome o (IsBoard n) → IfSome (cond b (Some x) o) (IsBoard n)
      put_board true x o h g = h
      put_board false x o h g = g

  -- a job is closed, and its board is gone
  one_less : (s : CoreState K V Q) (m : State K V Q) (j : ℕ) → m.jobs ≡ without nat_cmp s.machine.jobs j → m.next ≡ s.machine.next → IsCore s → IsCore (record s { machine = m; boards = without nat_cmp s.boards j })
  one_less s m j jobs next is =
      let now : (q : ℕ) → job_at m q ≡ cond (is_other nat_cmp j q) (job_at s.machine q) None = λ q. ap (λ js. value_at nat_cmp js q) jobs ∙ at_without s.machine.jobs j q in
      record {
        some = is.some;
        matches = λ q. ap is_some (at_without s.boards j q) ∙ both (is_other nat_cmp j q) (value_at nat_cmp s.boards q) (job_at s.machine q) (is.matches q) ∙ sym (ap is_some (now q));
        numbers = λ q there. omega (arith, next, is.numbers q (still (is_other nat_cmp j q) (job_at s.machine q) (sym (ap is_some (now q)) ∙ there)));
        boards = λ q. subst (λ o. IfSome o (IsBoard s.workers)) (sym (at_without s.boards j q)) (less s.workers (is_other nat_cmp j q) (value_at nat_cmp s.boards q) (is.boards q));
      }
    where
      both : {X Y : Type 0} (b : Bool) (o : Option X) (p : Option Y) → is_some o ≡ is_some p → is_some (cond b o None) ≡ is_some (cond b p None)
      both true o p e = e
      both false o p e = refl

      still : {X : Type 0} (b : Bool) (o : Option X) → is_some (cond b o None) ≡ true → is_some o ≡ true
      still true o e = e
      still false o e = cc

      less : (n : ℕ) (b : Bool) (o : Option Board) → IfSome o (IsBoard n) → IfSome (cond b o None) (IsBoard n)
      less n true o h = h
      less n false o h = tt

module _ {K V Q A B : Type 0} (kind : Kind K V Q A B) where
  -- a client's step
  client_kept : (s : CoreState K V Q) (r : Request K V Q) (o : Outcome K V B) (m : State K V Q) → Step kind s.machine r o m → IsCore s → IsCore (record s { machine = m; boards = boards_after s r o })
  client_kept s (open_handle h) made m step is = same_jobs s m (ap (λ (x : State K V Q). x.jobs) step.1) (ap (λ (x : State K V Q). x.next) step.1) is
  client_kept s (snapshot h to) made m step is = same_jobs s m (ap (λ (x : State K V Q). x.jobs) step.1) (ap (λ (x : State K V Q). x.next) step.1) is
  client_kept s (drop_handle h) made m step is = same_jobs s m (ap (λ (x : State K V Q). x.jobs) step.1) (ap (λ (x : State K V Q). x.next) step.1) is
  client_kept s (on h c) (replied y) m step is = same_jobs s m (ap (λ (x : State K V Q). x.jobs) step.1.1) (ap (λ (x : State K V Q). x.next) step.1.1) is
  client_kept s (view h) (viewed n) m step is = same_jobs s m (ap (λ (x : State K V Q). x.jobs) step.1.1) (ap (λ (x : State K V Q). x.next) step.1.1) is
  client_kept s (freeze h q) (frozen j n) m step is = one_more s m j (record { query = q; frozen = n }) (ap (λ (x : State K V Q). x.jobs) step.1.2) (ap (λ (x : State K V Q). x.next) step.1.2) step.1.0 is
  client_kept s (finish j) (finished b) m step is = one_less s m j (ap (λ (x : State K V Q). x.jobs) step.1.left) (ap (λ (x : State K V Q). x.next) step.1.left) is
  client_kept s (finish j) unfinished m step is = same_jobs s m (ap (λ (x : State K V Q). x.jobs) step.1) (ap (λ (x : State K V Q). x.next) step.1) is
  client_kept s (abandon j) made m step is = one_less s m j (ap (λ (x : State K V Q). x.jobs) step.1) (ap (λ (x : State K V Q). x.next) step.1) is
  client_kept s worker_step worked m step is = same_jobs s m (ap (λ (x : State K V Q). x.jobs) step.1) (ap (λ (x : State K V Q). x.next) step.1) is
  client_kept s r (refused e) m step is = same_jobs s m (ap (λ (x : State K V Q). x.jobs) step.1) (ap (λ (x : State K V Q). x.next) step.1) is
  client_kept s r o m step is = absurd step.1

-- no refusal: neither condition holds
pub neither : (a b : Bool) (e f : Refusal) → first_of ((a, e) ∷ (b, f) ∷ []) ≡ None → (a ≡ false) × (b ≡ false)
neither true b e f h = cc
neither false true e f h = cc
neither false false e f h = (refl, refl)

pub all_below : (n : ℕ) (ws : List ℕ) → list_any (λ w. nat_le n w) ws ≡ false → All (λ w. w < n) ws
all_below n [] h = All-nil (λ w. w < n)
all_below n (w ∷ ws) h =
    let parts = or_parts (nat_le n w) (list_any (λ v. nat_le n v) ws) h in
    All-cons (λ v. v < n) w ws (leb-false n w parts.0) (all_below n ws parts.1)
  where
    or_parts : (a b : Bool) → (a || b) ≡ false → (a ≡ false) × (b ≡ false)
    or_parts true b h = cc
    or_parts false b h = (refl, h)

pub its_board : (P : Board → Type 0) (o : Option Board) → is_some o ≡ true → IfSome o P → P (unwrap_or o [])
its_board P (Some b) e h = h
its_board P None e h = cc

pub not_false : (b : Bool) → not b ≡ false → b ≡ true
not_false true e = refl
not_false false e = cc

module _ {K V Q : Type 0} (division : Division K V Q) (cuts : (m : Map K V) (grain : ℕ) → CutsWithin (λ i. cut_point division.path m i grain)) where
  -- a worker's step
  worker_kept : (s : CoreState K V Q) (j : ℕ) (x : Move) (y : MoveResult) (t : CoreState K V Q) → refusal_of s j x ≡ None → WorkerMoves division s j x y t → IsCore s → IsCore t
  worker_kept s j x y t none move is =
      let both = neither (not (is_some (job_at s.machine j))) (list_any (λ w. nat_le s.workers w) (named_by x)) NoJob NoWorker none in
      let job_there = not_false (is_some (job_at s.machine j)) both.0 in
      let here = is.matches j ∙ job_there in
      let board : IsBoard s.workers (board_of s j) = its_board (IsBoard s.workers) (value_at nat_cmp s.boards j) here (is.boards j) in
      let named : All (λ w. w < length (board_of s j)) (named_by x) = subst (λ n. All (λ w. w < n) (named_by x)) (sym board.long) (all_below s.workers (named_by x) both.1) in
      let after : Board = (moved_job division s j x (tells_settled y)).1 in
      let kept : IsBoard s.workers after =
      board_kept (λ i. cut_point division.path (frozen_map s j) i s.grain) (cuts (frozen_map s j) s.grain) s.workers (λ i. length (part division.path (frozen_map s j) i)) (tells_settled y) (board_of s j) x named board in
      subst IsCore (sym move.left) (record {
        some = is.some;
        matches = λ q. ap is_some (at_put s.boards j q after) ∙ there after (eq_by_cmp nat_cmp q j) (value_at nat_cmp s.boards q) (job_at s.machine q) (λ e. ap (λ k. is_some (job_at s.machine k)) (same q j e) ∙ job_there) (is.matches q);
        numbers = is.numbers;
        boards = λ q. subst (λ o. IfSome o (IsBoard s.workers)) (sym (at_put s.boards j q after)) (one s.workers (eq_by_cmp nat_cmp q j) after (value_at nat_cmp s.boards q) kept (is.boards q));
      })
    where
      same : (q j : ℕ) → eq_by_cmp nat_cmp q j ≡ true → q ≡ j
      same q j e = grind (arith, nat_tests, e)

      there : {X Y : Type 0} (x : X) (b : Bool) (o : Option X) (p : Option Y) → (b ≡ true → is_some p ≡ true) → is_some o ≡ is_some p → is_some (cond b (Some x) o) ≡ is_some p
      there x true o p h e = sym (h refl)
      there x false o p h e = e

      one : (n : ℕ) (b : Bool) (x : Board) (o : Option Board) → IsBoard n x → IfSome o (IsBoard n) → IfSome (cond b (Some x) o) (IsBoard n)
      one n true x o h g = h
      one n false x o h g = g

module _ {K V Q A B : Type 0} (kind : Kind K V Q A B) (division : Division K V Q) (cuts : (m : Map K V) (grain : ℕ) → CutsWithin (λ i. cut_point division.path m i grain)) where
  -- each step keeps what is true of a core
  pub step_kept : (s : CoreState K V Q) (x : Asked K V Q) (y : CoreOutcome K V B) (t : CoreState K V Q) → CoreStep kind division s x y t → IsCore s → IsCore t
  step_kept s (of_client r) (to_client o) t step is = subst IsCore (sym step.3) (client_kept kind s r o step.0 step.1 is)
  step_kept s (of_client r) (to_worker y) t step is = absurd step
  step_kept s (of_client r) (no_move e) t step is = absurd step
  step_kept s (of_worker j x) (to_client o) t step is = absurd step
  step_kept s (of_worker j x) (to_worker y) t step is = worker_kept division cuts s j x y t step.0 step.1 is
  step_kept s (of_worker j x) (no_move e) t step is = subst IsCore (sym step.1) is

-- a new core is one
pub new_is_core : {K V Q : Type 0} (limits : Limits) (workers grain : ℕ) → 1 ≤ workers → IsCore {K = K} {V = V} {Q = Q} (new_core limits workers grain)
new_is_core limits workers grain some = record { some = some; matches = λ j. refl; numbers = λ j there. cc; boards = λ j. tt }
