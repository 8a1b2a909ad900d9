-- Steps on open jobs, as they are found in the list of the open jobs.
use Rattle.std.proofs.Common.{◌≡◌, ℕ, zero, suc, ◌<◌, true, false, not, ◌&&◌, List, [], ◌∷◌, ◌++◌, length, get_or, set, Option, Some, None, is_none, is_some, refl, sym, ap, ◌∙◌, subst, inl, inr, arith}
use Rattle.std.specs.Prelude.{IfSome, option_map, unwrap_or, nat_le, nat_lt, slice_get}
use Rattle.std.specs.Arc.{arc_value}
use Rattle.std.specs.List.{list_any}
use Rattle.std.specs.Ordering.{nat_cmp}
use Rattle.std.specs.declared.cmp.Ordering.{Ordering}
use Rattle.std.proofs.lemmas.Bool.{cases_Bool}
use Rattle.std.proofs.lemmas.Bool.Decides.{nat_tests}
use Rattle.std.proofs.lemmas.List.{length-map, set-get_or}
use Rattle.std.proofs.lemmas.List.Elements.{All-get_or}
use Rattle.std.proofs.lemmas.Option.{slice_get-map, slice_get_read, slice_get_within, get_or_from_slice_get}
use Rattle.versions.specs.Map.{Map, value_at, with_pair}
use Rattle.versions.specs.declared.refusal.Refusal.TheVariants.{NoWorker}
use Rattle.bulk_work.specs.Answers as plain
use Rattle.handles.specs.Machine.{Kind, State, Job, freeze, finish, frozen, Step, job_at, refusal}
use Rattle.iter.specs.declared.interval.Interval.{Interval}
use Rattle.iter.specs.Intervals.{whole, Tile, parts}
use Rattle.splitter.specs.Cuts.{cut_point}
use Rattle.worker_states.specs.Boards.{Worker, worker, first_board, Move, named_by}
use Rattle.worker_states.specs.Views.{move_result}
use Rattle.worker_states.specs.declared.progress.Progress.{Progress}
use Rattle.core_steps.specs.declared.job_state.JobState.{JobState}
use Rattle.core_steps.specs.Cores.{of_client, of_worker, IsUnfinished, worked_part, refusal_of}
use Rattle.worker_states.specs.WorkerValues.{WorkerValue, board, state_parts, result_of, results, HasPart, IsJobOn}
use Rattle.core_steps.specs.Collected.{IsCollected, MayCollect}
use Rattle.core_steps.specs.Moves.{MovesTo}
use Rattle.core_steps.specs.JobStates.{JobValue, Fits, IsPlaceOf, IsWhole, core_of, value_of, job_state_of, job_states_of, all_parts}
use Rattle.core_steps.specs.Parts.{part_at}
use Rattle.core_steps.specs.Queries.{divided}
use Rattle.core_steps.specs.declared.outcome.Outcome.TheVariants as outcomes
use Rattle.core_steps.specs.Steps.{StepsTo}
use Rattle.core_steps.proofs.KeptBoards.{CutsWithin}
use Rattle.core_steps.proofs.JobStateLemmas.{same_parts, parts_here, AllBelow, below_all_values, push_is_put, set_is_put, value_here, number_here}
use Rattle.worker_states.proofs.WorkerLemmas.{worker_is}
use Rattle.core_steps.proofs.WholeSteps.{IsOpen, is_open, long_states, frozen_whole, not_refused, unfinished_whole, collected_whole, may_finish, refusal_is, no_worker, moved_whole}
use Rattle.worker_states.proofs.Workings.{result_at}

-- what stands at a place
there_is : {X : Type 0} (xs : List X) (k : ℕ) → k < length xs → (x : X) × (x ≡ get_or xs k x)
there_is [] k there = absurd (omega (arith, there))
there_is (x ∷ xs) zero there = (x, refl)
there_is (x ∷ xs) (suc k) there = there_is xs k (omega (arith, there))

-- nothing stands past the end, and only there
none_past : {X Y P : Type 0} (f : X → P) (h : Y → P) (o : Option X) (ys : List Y) (k n : ℕ) → option_map f o ≡ option_map h (slice_get ys k) → length ys ≡ n → is_none o ≡ not (nat_lt k n)
none_past {X} {Y} {P} f h o ys k n same long = by_case o (slice_get ys k) refl same
  where
    by_case : (q : Option X) (r : Option Y) → slice_get ys k ≡ r → option_map f q ≡ option_map h r → is_none q ≡ not (nat_lt k n)
    by_case (Some x) (Some y) e same = ap not (below k n (omega (arith, long, slice_get_within ys k y e)))
      where
        below : (a b : ℕ) → a < b → true ≡ nat_lt a b
        below a b there = grind (arith, nat_tests, there)
    by_case None None e same =
        elim (cases_Bool (nat_lt k n)) [
          | inl is ↦
              let found = there_is ys k (omega (arith, long, less k n is)) in
              absurd (differ found.0 (sym e ∙ slice_get_read ys (length ys) k found.0 refl (omega (arith, long, less k n is)) found.1))
          | inr is ↦ ap not (sym is)
        ]
      where
        less : (a b : ℕ) → nat_lt a b ≡ true → a < b
        less a b is = grind (arith, nat_tests, is)

        differ : (y : Y) → None ≡ Some y → ⊥
        differ y e = cc
    by_case (Some x) None e same = cc
    by_case None (Some y) e same = cc

-- the part of the worker of a number is of what it has worked
part_of : {K V P X : Type 0} (R : K → K → Ordering) (path : K → ℕ) (answers : Map K V → P → Type 0) (m : Map K V) (ds : List (WorkerValue K V P)) (k : ℕ) (f : X → P) (o : Option X)
    → option_map f o ≡ option_map (λ d. d.part) (slice_get ds k) → IsJobOn R path answers m ds → IfSome o (λ x. answers (parts path m (worker (board ds) k).worked) (f x))
part_of {K} {V} {P} {X} R path answers m ds k f o same job = by_case o (slice_get ds k) refl same
  where
    by_case : (q : Option X) (r : Option (WorkerValue K V P)) → slice_get ds k ≡ r → option_map f q ≡ option_map (λ d. d.part) r → IfSome q (λ x. answers (parts path m (worker (board ds) k).worked) (f x))
    by_case None r e same = tt
    by_case (Some x) None e same = cc
    by_case (Some x) (Some d) e same =
        let read : d ≡ get_or ds k d = sym (get_or_from_slice_get ds k d d e) in
        let there : k < length ds = slice_get_within ds k d e in
        let has : answers (parts path m d.worked) d.part =
        subst (HasPart R path answers m) (result_at ds k d ∙ ap result_of (sym read)) (All-get_or (HasPart R path answers m) (results ds) k (result_of d) (omega (arith, length-map ds result_of, there)) job.answered) in
        subst (λ (p : P). answers (parts path m (worker (board ds) k).worked) p) (ap (λ (r : Option P). unwrap_or r d.part) (sym same))
        (subst (λ (x : Worker). answers (parts path m x.worked) d.part) (sym (worker_is ds k d there read)) has)

module _ {K V Q P A I : Type 0} (R : K → K → Ordering) (path : K → ℕ) (answers : Q → Map K V → P → Type 0) (ready : Q → Type 0)
    (kind : Kind K V Q A (plain.Summary K V I)) (Decides : Q → Map K V → Type 0)
    (cuts : (m : Map K V) (grain : ℕ) → CutsWithin (λ i. cut_point path m i grain))
    (s : State K V Q) (ps : List (JobState K V Q P)) (w g : ℕ) (is : IsWhole R path answers ready s (job_states_of ps) w g)
  where
    -- 1. A job is opened.
    new_number : (n : ℕ) → n ≡ s.next → AllBelow n (job_states_of ps)
    new_number n new = below_all_values n (job_states_of ps) (λ j there. omega (arith, new, is.core.numbers j (both (job_at s j) (value_at nat_cmp (job_states_of ps) j) (is.fits j) there)))
      where
        both : (o : Option (Job K V Q)) (r : Option (JobValue K V Q P)) → Fits R path answers ready o r → is_some r ≡ true → is_some o ≡ true
        both (Some x) (Some p) fits e = refl
        both (Some x) None fits e = refl
        both None (Some p) fits e = absurd fits
        both None None fits e = e

    pub pushed_whole : (t : State K V Q) (h : ℕ) (q : Q) (m : Map K V) (p : JobState K V Q P) → Step kind s (freeze h q) (frozen p.number m) t → arc_value p.query ≡ q → ready q
        → IsJobOn R path (answers (arc_value p.query)) m p.board → board p.board ≡ first_board w
        → StepsTo kind (divided path Decides) (value_of s (job_states_of ps) w g) (of_client (freeze h q)) (outcomes.Frozen p.number) (value_of t (job_states_of (ps ++ p ∷ [])) w g) × IsWhole R path answers ready t (job_states_of (ps ++ p ∷ [])) w g
    pushed_whole t h q m p step same can job first =
        subst (λ (job_states : Map ℕ (JobValue K V Q P)). StepsTo kind (divided path Decides) (value_of s (job_states_of ps) w g) (of_client (freeze h q)) (outcomes.Frozen p.number) (value_of t job_states w g) × IsWhole R path answers ready t job_states w g)
        (sym (push_is_put ps p (new_number p.number step.1.0)))
        (frozen_whole R path answers ready kind Decides cuts s t (job_states_of ps) w g h p.number q m (job_state_of p).1 step same (subst ready (sym same) can) job first is)

    module _ (j place : ℕ) (lies : IsPlaceOf ps j place) where
      -- 2. The job at a place is open.
      pub open_here : (d : JobState K V Q P) → d ≡ get_or ps place d → IsOpen R path answers ready kind Decides cuts s (job_states_of ps) w g j (job_state_of d).1
      open_here d read = is_open R path answers ready kind Decides cuts s (job_states_of ps) w g j (job_state_of d).1 (value_here ps place j d is.sorted lies.inside read (number_here ps j place d lies read)) is

      -- whether its part of a worker is there
      pub part_none : {X : Type 0} (f : X → P) (o : Option X) (d : JobState K V Q P) (k : ℕ) → d ≡ get_or ps place d → option_map f o ≡ option_map (λ x. x.part) (slice_get d.board k)
          → is_none o ≡ not (is_some (job_at s j) && nat_lt k w)
      part_none f o d k read same =
          let stands = open_here d read in
          none_past f (λ (x : WorkerValue K V P). x.part) o d.board k w same (long_states R path answers ready kind Decides cuts s (job_states_of ps) w g j (job_state_of d).1 stands is)
          ∙ ap (λ (x : Option (Job K V Q)). not (is_some x && nat_lt k w)) (sym stands.named)

      -- and that it is of what the worker has worked
      pub part_some : {X : Type 0} (f : X → P) (o : Option X) (d : JobState K V Q P) (k : ℕ) → d ≡ get_or ps place d → option_map f o ≡ option_map (λ x. x.part) (slice_get d.board k)
          → IfSome o (λ x. (asking : Job K V Q) → job_at s j ≡ Some asking → answers asking.query (worked_part (divided path Decides) (core_of s (job_states_of ps) w g) j k) (f x))
      part_some {X} f o d k read same =
          let stands = open_here d read in
          later o (part_of R path (answers (arc_value d.query)) stands.job.frozen d.board k f o same stands.has.worker_states)
        where
          later : (r : Option X) → IfSome r (λ x. answers (arc_value d.query) (parts path (open_here d read).job.frozen (worker (board d.board) k).worked) (f x))
              → IfSome r (λ x. (asking : Job K V Q) → job_at s j ≡ Some asking → answers asking.query (worked_part (divided path Decides) (core_of s (job_states_of ps) w g) j k) (f x))
          later None h = tt
          later (Some x) h = λ asking named.
              let stands = open_here d read in
              let its : stands.job ≡ asking = ap (λ (r : Option (Job K V Q)). unwrap_or r asking) (sym stands.named ∙ named) in
              subst (λ (q : Q). answers q (worked_part (divided path Decides) (core_of s (job_states_of ps) w g) j k) (f x)) (stands.has.query ∙ ap (λ (y : Job K V Q). y.query) its)
              (subst (λ (n : Map K V). answers (arc_value d.query) n (f x)) (λ i. parts path (sym stands.map_is i) (worker (sym stands.board_is i) k).worked) h)

      -- the part is the one that the core shows
      pub part_shown : {X : Type 0} (f : X → P) (o : Option X) (d : JobState K V Q P) (k : ℕ) → d ≡ get_or ps place d → option_map f o ≡ option_map (λ x. x.part) (slice_get d.board k)
          → option_map f o ≡ part_at (all_parts (job_states_of ps)) j k
      part_shown f o d k read same =
          same ∙ sym (slice_get-map (λ (x : WorkerValue K V P). x.part) d.board k) ∙ ap (λ (qs : List P). slice_get qs k) (sym (parts_here (job_states_of ps) j (job_state_of d).1 (open_here d read).here))

      -- a finish of it is not refused, nor a move of its workers
      pub finish_unrefused : refusal kind s (finish j) ≡ None
      finish_unrefused =
          let found = there_is ps place lies.inside in
          let stands = open_here found.0 found.1 in
          not_refused R path answers ready kind Decides cuts s j stands.job stands.named

      pub move_unrefused : (x : Move) → list_any (λ v. nat_le w v) (named_by x) ≡ false → refusal_of (core_of s (job_states_of ps) w g) j x ≡ None
      move_unrefused x e =
          let found = there_is ps place lies.inside in
          refusal_is R path answers ready kind Decides cuts s (job_states_of ps) w g j x (job_state_of found.0).1 false (open_here found.0 found.1) e

      -- 3. It is collected.
      pub unfinished_here : (d : JobState K V Q P) (q : Q) (o : Option P) → d ≡ get_or ps place d → q ≡ arc_value d.query → o ≡ None
          → ((m : Map K V) → IsJobOn R path (answers q) m d.board → IsCollected path (answers q) (Decides q) m d.board o)
          → StepsTo kind (divided path Decides) (value_of s (job_states_of ps) w g) (of_client (finish j)) outcomes.Unfinished (value_of s (job_states_of ps) w g)
      unfinished_here d q o read same none collects =
          let stands = open_here d read in
          let left = subst (λ (r : Q). IsCollected path (answers r) (Decides r) stands.job.frozen d.board o) same (collects stands.job.frozen (subst (λ (r : Q). IsJobOn R path (answers r) stands.job.frozen d.board) (sym same) stands.has.worker_states)) in
          unfinished_whole R path answers ready kind Decides cuts s (job_states_of ps) w g j (job_state_of d).1 stands (subst (IsCollected path (answers (arc_value d.query)) (Decides (arc_value d.query)) stands.job.frozen d.board) none left) is

      pub collected_here : ((m : Map K V) (is : List Interval) → Tile is whole → parts path m is ≡ m) → (d : JobState K V Q P) (q : Q) (o : Option P) (part : P) → d ≡ get_or ps place d → q ≡ arc_value d.query → o ≡ Some part
          → ((m : Map K V) → IsJobOn R path (answers q) m d.board → IsCollected path (answers q) (Decides q) m d.board o)
          → ((x : Job K V Q) → job_at s j ≡ Some x → answers x.query x.frozen part) × (IsUnfinished (divided path Decides) (core_of s (job_states_of ps) w g) j → ⊥)
      collected_here tiled d q o part read same some collects =
          let stands = open_here d read in
          let left = subst (λ (r : Q). IsCollected path (answers r) (Decides r) stands.job.frozen d.board o) same (collects stands.job.frozen (subst (λ (r : Q). IsJobOn R path (answers r) stands.job.frozen d.board) (sym same) stands.has.worker_states)) in
          let both = collected_whole R path answers ready kind Decides cuts tiled s (job_states_of ps) w g j (job_state_of d).1 stands part (subst (IsCollected path (answers (arc_value d.query)) (Decides (arc_value d.query)) stands.job.frozen d.board) some left) is in (
            λ x named. subst (λ (y : Job K V Q). answers y.query y.frozen part) (ap (λ (r : Option (Job K V Q)). unwrap_or r x) (sym stands.named ∙ named)) both.0,
            both.1,
          )

      -- where it may be collected, a finish of it does not return that it is unfinished
      pub may_finish_here : (d : JobState K V Q P) (q : Q) → d ≡ get_or ps place d → q ≡ arc_value d.query → ((m : Map K V) → IsJobOn R path (answers q) m d.board → MayCollect path (answers q) (Decides q) m d.board)
          → IsUnfinished (divided path Decides) (core_of s (job_states_of ps) w g) j → ⊥
      may_finish_here d q read same may =
          let stands = open_here d read in
          may_finish R path answers ready kind Decides cuts s (job_states_of ps) w g j (job_state_of d).1 stands
          (subst (λ (r : Q). MayCollect path (answers r) (Decides r) stands.job.frozen d.board) same (may stands.job.frozen (subst (λ (r : Q). IsJobOn R path (answers r) stands.job.frozen d.board) (sym same) stands.has.worker_states))) is

      -- 4. A worker moves on it, or is none of its workers.
      pub other_here : (x : Move) → list_any (λ v. nat_le w v) (named_by x) ≡ true
          → StepsTo kind (divided path Decides) (value_of s (job_states_of ps) w g) (of_worker j x) (outcomes.Refused NoWorker) (value_of s (job_states_of ps) w g)
      other_here x e =
          let found = there_is ps place lies.inside in
          no_worker R path answers ready kind Decides cuts s (job_states_of ps) w g j x (job_state_of found.0).1 (open_here found.0 found.1) e

      pub moved_here : (d : JobState K V Q P) (x : Move) (p : Progress) (q : Q) (es : List (WorkerValue K V P)) → d ≡ get_or ps place d → q ≡ arc_value d.query → list_any (λ v. nat_le w v) (named_by x) ≡ false
          → ((m : Map K V) → IsJobOn R path (answers q) m d.board → MovesTo R path (answers q) (Decides q) m g d.board x (move_result p) es)
          → StepsTo kind (divided path Decides) (value_of s (job_states_of ps) w g) (of_worker j x) (outcomes.Moved p) (value_of s (job_states_of (set ps place (record d { board = es }))) w g)
          × IsWhole R path answers ready s (job_states_of (set ps place (record d { board = es }))) w g
      moved_here d x p q es read same e moves =
          let stands = open_here d read in
          let number = number_here ps j place d lies read in
          let goes = subst (λ (r : Q). MovesTo R path (answers r) (Decides r) stands.job.frozen g d.board x (move_result p) es) same (moves stands.job.frozen (subst (λ (r : Q). IsJobOn R path (answers r) stands.job.frozen d.board) (sym same) stands.has.worker_states)) in
          let put = set_is_put ps place j d (record d { board = es }) is.sorted lies.inside read number number in
          let quiet : state_parts es ≡ state_parts d.board → all_parts (with_pair nat_cmp (job_states_of ps) j (job_state_of (record d { board = es })).1) ≡ all_parts (job_states_of ps) =
          λ parts. ap all_parts (sym put) ∙ same_parts ps place d (record d { board = es }) read (ap (λ (qs : List P). (d.number, qs)) parts) in
          subst (λ (job_states : Map ℕ (JobValue K V Q P)). StepsTo kind (divided path Decides) (value_of s (job_states_of ps) w g) (of_worker j x) (outcomes.Moved p) (value_of s job_states w g) × IsWhole R path answers ready s job_states w g)
          (sym put)
          (moved_whole R path answers ready kind Decides cuts s (job_states_of ps) w g j x p (job_state_of d).1 es stands e goes quiet is)

      -- a move that finds no memory leaves all jobs
      pub unmoved_here : (d : JobState K V Q P) (es : List (WorkerValue K V P)) → d ≡ get_or ps place d → es ≡ d.board → IsWhole R path answers ready s (job_states_of (set ps place (record d { board = es }))) w g
      unmoved_here d es read same =
          subst (λ (qs : List (JobState K V Q P)). IsWhole R path answers ready s (job_states_of qs) w g)
          (sym (ap (set ps place) ((λ i. record d { board = same i }) ∙ read) ∙ set-get_or ps place d)) is
