-- A board as it begins.
use Rattle.std.proofs.Common.{◌≡◌, ℕ, zero, suc, ◌≤◌, Bool, true, false, cond, List, [], ◌∷◌, length, map, replicate, get_or, set, Option, refl, sym, ap, ◌∙◌, subst, arith}
use Rattle.std.specs.Prelude.{All, IfSome, option_map}
use Rattle.std.specs.declared.cmp.Ordering.{Ordering}
use Rattle.std.proofs.lemmas.List.{map-set}
use Rattle.std.proofs.lemmas.List.Elements.{All-nil, All-cons, All-head, All-tail, All-get_or, All-set, All-weaker, All-map}
use Rattle.trie_shape.specs.Map.{Map, IsMap}
use Rattle.versions.specs.declared.version.TheConstants.{MOST_PAIRS}
use Rattle.iter.specs.Intervals.{whole, lies_in, cover, parts}
use Rattle.splitter.specs.Portion.{Portion}
use Rattle.worker_states.specs.Boards.{Worker, nobody, first_board, intervals}
use Rattle.worker_states.specs.WorkerValues.{WorkerValue, IsVacant, interval_of, worker_of, board, result_of, results, HasPieces, HasPart, IsJobOn}
use Rattle.core_steps.proofs.KeptBoards.{first_is_board}

-- no interval has no pairs
pub no_parts : {K V : Type 0} (path : K → ℕ) (m : Map K V) → parts path m [] ≡ []
no_parts path [] = refl
no_parts path (x ∷ m) = no_parts path m

-- the state of worker 0
pub first_state : {K V P : Type 0} (ds : List (WorkerValue K V P)) → 1 ≤ length ds → WorkerValue K V P
first_state [] some = absurd (omega arith)
first_state (d ∷ ds) some = d

module _ {K V P : Type 0} (answers : Map K V → P → Type 0) where
  vacant_worker : (d : WorkerValue K V P) → IsVacant answers d → worker_of d ≡ nobody
  vacant_worker d none = λ i. record { queue = map interval_of (none.queue i); held = option_map interval_of (none.held i); worked = none.worked i }

  vacant_board : (ds : List (WorkerValue K V P)) (n : ℕ) → length ds ≡ n → All (IsVacant answers) ds → board ds ≡ replicate n nobody
  vacant_board [] zero e all = refl
  vacant_board [] (suc n) e all = cc
  vacant_board (d ∷ ds) zero e all = cc
  vacant_board (d ∷ ds) (suc n) e all =
      let first = vacant_worker d (All-head (IsVacant answers) d ds all) in
      let rest = vacant_board ds n (omega (arith, e)) (All-tail (IsVacant answers) d ds all) in
      λ i. first i ∷ rest i

  -- the board of a job, once the whole piece waits for worker 0
  pub begun_board : (m : Map K V) (ds : List (WorkerValue K V P)) (n : ℕ) (d : WorkerValue K V P) → 1 ≤ n → length ds ≡ n → All (IsVacant answers) ds
      → board (set ds 0 (record (get_or ds 0 d) { queue = record { map = m; interval = whole } ∷ [] })) ≡ first_board n
  begun_board m ds n d some long all =
      let none = All-get_or (IsVacant answers) ds 0 d (omega arith) all in
      let shown : worker_of (record (get_or ds 0 d) { queue = record { map = m; interval = whole } ∷ [] }) ≡ record nobody { queue = whole ∷ [] } =
      ap (λ (x : Worker). record x { queue = whole ∷ [] }) (vacant_worker (get_or ds 0 d) none) in
      map-set worker_of ds 0 (record (get_or ds 0 d) { queue = record { map = m; interval = whole } ∷ [] })
      ∙ (λ i. set (vacant_board ds n long all i) 0 (shown i))

module _ {K V P : Type 0} (R : K → K → Ordering) (path : K → ℕ) (answers : Map K V → P → Type 0) (m : Map K V) where
  vacant_pieces : (d : WorkerValue K V P) → IsVacant answers d → HasPieces m d
  vacant_pieces d none = record {
    queue = subst (All (λ p. p.map ≡ m)) (sym none.queue) (All-nil (λ p. p.map ≡ m));
    held = subst (λ (o : Option (Portion K V)). IfSome o (λ p. p.map ≡ m)) (sym none.held) tt;
  }

  vacant_part : (d : WorkerValue K V P) → IsVacant answers d → HasPart R path answers m (result_of d)
  vacant_part d none = subst (λ (n : Map K V). answers n d.part) (sym (ap (parts path m) none.worked ∙ no_parts path m)) none.part

  -- it is the board of a job on the map
  pub begun_job : (ds : List (WorkerValue K V P)) (n : ℕ) (d : WorkerValue K V P) → IsMap R m → length m ≤ MOST_PAIRS → 1 ≤ n → length ds ≡ n → All (IsVacant answers) ds
      → IsJobOn R path answers m (set ds 0 (record (get_or ds 0 d) { queue = record { map = m; interval = whole } ∷ [] }))
  begun_job ds n d sorted few some long all =
      let none = All-get_or (IsVacant answers) ds 0 d (omega arith) all in
      let e : WorkerValue K V P = record (get_or ds 0 d) { queue = record { map = m; interval = whole } ∷ [] } in
      record {
        sorted = sorted;
        few = few;
        pieces = All-set (HasPieces m) ds 0 e
            (record { queue = All-cons (λ p. p.map ≡ m) _ [] refl (All-nil (λ p. p.map ≡ m)); held = (vacant_pieces (get_or ds 0 d) none).held })
            (All-weaker (IsVacant answers) (HasPieces m) vacant_pieces ds all);
        answered = subst (All (HasPart R path answers m)) (sym (map-set result_of ds 0 e))
            (All-set (HasPart R path answers m) (results ds) 0 (result_of e) (vacant_part (get_or ds 0 d) none)
            (All-map (HasPart R path answers m) result_of ds (All-weaker (IsVacant answers) (λ x. HasPart R path answers m (result_of x)) vacant_part ds all)));
        apart = λ p. omega (arith, ap (λ b. cover (intervals b) p) (begun_board answers m ds n d some long all), (first_is_board n some).tile p, at_most (lies_in whole p));
      }
    where
      at_most : (t : Bool) → cond t 1 0 ≤ 1
      at_most true = omega arith
      at_most false = omega arith
