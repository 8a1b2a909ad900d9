-- Each client's step on a core and its open jobs.
use Rattle.std.proofs.Common.{◌≡◌, ℕ, ◌<◌, Bool, true, false, not, cond, List, [], ◌∷◌, length, set, Option, Some, None, is_some, refl, sym, ap, ◌∙◌, subst, inl, inr, arith}
use Rattle.std.specs.Prelude.{All, IsSomeAnd, Result, Ok, Err, option_map, unwrap_or, nat_le}
use Rattle.std.specs.List.{list_any}
use Rattle.std.proofs.lemmas.Bool.Decides.{nat_tests}
use Rattle.std.proofs.lemmas.List.{length-map}
use Rattle.std.specs.Ordering.{nat_cmp, eq_by_cmp}
use Rattle.std.specs.declared.cmp.Ordering.{Ordering}
use Rattle.versions.specs.Map.{Map, value_at, with_pair, without, is_other}
use Rattle.versions.specs.declared.refusal.Refusal.{Refusal}
use Rattle.versions.specs.declared.refusal.Refusal.TheVariants.{NoHandle, Taken, Full, NoJob, Unfinished, NoWorker, TooManyJobs, JournalFull, NoMemory, BadNumber}
use Rattle.bulk_work.specs.Answers as plain
use Rattle.bulk_work.specs.Summaries.{summary_of}
use Rattle.bulk_work.specs.declared.asks.Answer.{Answer}
use Rattle.handles.specs.declared.call.Call.{Call}
use Rattle.handles.specs.declared.call.Call.TheVariants.{Open, Snapshot, Drop, On}
use Rattle.handles.specs.declared.call_reply.CallReply.{CallReply}
use Rattle.handles.specs.declared.call_reply.CallReply.TheVariants as replies
use Rattle.handles.specs.Machine.{Kind, State, Job, Request, open_handle, snapshot, drop_handle, on, view, freeze, finish, abandon, worker_step, Outcome, made, viewed, frozen, finished, unfinished, refused, Step, job_at, refusal, first_of, is_freeze, job_of}
use Rattle.handles.specs.Views.{IsStep, call_outcome, view_outcome, request_of}
use Rattle.handles.specs.Laws.{OthersKeepJobs}
use Rattle.iter.specs.declared.interval.Interval.{Interval}
use Rattle.iter.specs.Intervals.{whole, Tile, part, parts}
use Rattle.splitter.specs.Cuts.{cut_point}
use Rattle.worker_states.specs.Boards.{Board, worker, first_board, all_worked, Move, taking, stealing, splitting, working, mover, named_by, moved, MoveResult, took, cut, uncut, done, idle, tells_settled, TellsTruly}
use Rattle.core_steps.specs.Cores as cores
use Rattle.worker_states.specs.Views.{move_result}
use Rattle.worker_states.specs.declared.progress.Progress.{Progress}
use Rattle.core_steps.specs.Cores.{CoreState, of_client, of_worker, to_client, to_worker, no_move, CoreStep, board_of, frozen_map, refusal_of, IsUnfinished, IsSettled}
use Rattle.worker_states.specs.WorkerValues.{WorkerValue, worker_of, board, state_parts, IsJobOn}
use Rattle.core_steps.specs.Invariants.{IsBoard, waiting}
use Rattle.core_steps.specs.Collected.{IsCollected, MayCollect}
use Rattle.core_steps.specs.Moves.{MovesTo, move_on}
use Rattle.core_steps.specs.JobStates.{JobValue, HasWorkerStates, Fits, IsWhole, core_of, value_of, boards_of, all_parts}
use Rattle.core_steps.specs.Parts.{PartsMove, PartsMoved, PartsStep}
use Rattle.core_steps.specs.Queries.{divided}
use Rattle.core_steps.specs.declared.outcome.Outcome.TheVariants as outcomes
use Rattle.core_steps.specs.Steps.{IsAnswered, StepsTo, refused_outcome, outcome_of_call, outcome_of_view}
use Rattle.core_steps.proofs.KeptBoards.{CutsWithin}
use Rattle.core_steps.proofs.KeptCores.{step_kept, at_put, at_without, its_board, all_below}
use Rattle.core_steps.proofs.JobStateLemmas.{same_ties, put_sorted, less_sorted, shown_put, shown_without, shown_at, parts_put, parts_without, parts_here}
use Rattle.core_steps.proofs.Wholes.{job_tiles}

module _ {K V Q P A I : Type 0} (R : K → K → Ordering) (path : K → ℕ) (answers : Q → Map K V → P → Type 0) (ready : Q → Type 0)
    (kind : Kind K V Q A (plain.Summary K V I)) (Decides : Q → Map K V → Type 0)
    (cuts : (m : Map K V) (grain : ℕ) → CutsWithin (λ i. cut_point path m i grain))
  where
    abbrev Whole : State K V Q → Map ℕ (JobValue K V Q P) → ℕ → ℕ → Type 0
    Whole s job_states w g = IsWhole R path answers ready s job_states w g

    -- 1. Steps that neither open nor close a job.
    quiet : (s t : State K V Q) (job_states : Map ℕ (JobValue K V Q P)) (w g : ℕ) (r : Request K V Q) (o : Outcome K V (plain.Summary K V I))
        → t.jobs ≡ s.jobs → CoreStep kind (divided path Decides) (core_of s job_states w g) (of_client r) (to_client o) (core_of t job_states w g) → Whole s job_states w g → Whole t job_states w g
    quiet s t job_states w g r o same step is = record {
      core = step_kept kind (divided path Decides) cuts (core_of s job_states w g) (of_client r) (to_client o) (core_of t job_states w g) step is.core;
      sorted = is.sorted;
      fits = λ j. subst (λ js. Fits R path answers ready (value_at nat_cmp js j) (value_at nat_cmp job_states j)) (sym same) (is.fits j);
    }

    refused_step : (s t : State K V Q) (job_states : Map ℕ (JobValue K V Q P)) (w g : ℕ) (r : Request K V Q) (e : Refusal)
        → Step kind s r (refused e) t → CoreStep kind (divided path Decides) (core_of s job_states w g) (of_client r) (to_client (refused e)) (core_of t job_states w g)
    refused_step s t job_states w g (open_handle h) e step = (t, step, tt, refl)
    refused_step s t job_states w g (snapshot h to) e step = (t, step, tt, refl)
    refused_step s t job_states w g (drop_handle h) e step = (t, step, tt, refl)
    refused_step s t job_states w g (on h c) e step = (t, step, tt, refl)
    refused_step s t job_states w g (view h) e step = (t, step, tt, refl)
    refused_step s t job_states w g (freeze h q) e step = (t, step, tt, refl)
    refused_step s t job_states w g (finish j) e step = (t, step, tt, refl)
    refused_step s t job_states w g (abandon j) e step = (t, step, tt, refl)
    refused_step s t job_states w g worker_step e step = (t, step, tt, refl)

    -- a client's step that is refused
    refused_whole : (s t : State K V Q) (job_states : Map ℕ (JobValue K V Q P)) (w g : ℕ) (r : Request K V Q) (e : Refusal) → Step kind s r (refused e) t → Whole s job_states w g
        → StepsTo kind (divided path Decides) (value_of s job_states w g) (of_client r) (outcomes.Refused e) (value_of t job_states w g) × Whole t job_states w g
    refused_whole s t job_states w g r e step is =
        let core = refused_step s t job_states w g r e step in (
          record { told = to_client (refused e); shown = refl; step = core; parts = refl },
          quiet s t job_states w g r (refused e) (ap (λ (x : State K V Q). x.jobs) step.1) core is,
        )

    pub refusal_whole : {T : Type 0} (shown : T → Outcome K V (plain.Summary K V I)) (s t : State K V Q) (job_states : Map ℕ (JobValue K V Q P)) (w g : ℕ) (r : Request K V Q) (e : Refusal) → IsStep kind s r shown (Err e) t → Whole s job_states w g
        → IsAnswered kind (divided path Decides) (value_of s job_states w g) (of_client r) (refused_outcome e) (value_of t job_states w g) × Whole t job_states w g
    refusal_whole shown s t job_states w g r NoHandle step is = refused_whole s t job_states w g r NoHandle step is
    refusal_whole shown s t job_states w g r Taken step is = refused_whole s t job_states w g r Taken step is
    refusal_whole shown s t job_states w g r Full step is = refused_whole s t job_states w g r Full step is
    refusal_whole shown s t job_states w g r NoJob step is = refused_whole s t job_states w g r NoJob step is
    refusal_whole shown s t job_states w g r Unfinished step is = refused_whole s t job_states w g r Unfinished step is
    refusal_whole shown s t job_states w g r NoWorker step is = refused_whole s t job_states w g r NoWorker step is
    refusal_whole shown s t job_states w g r TooManyJobs step is = refused_whole s t job_states w g r TooManyJobs step is
    refusal_whole shown s t job_states w g r JournalFull step is = refused_whole s t job_states w g r JournalFull step is
    refusal_whole shown s t job_states w g r BadNumber step is = refused_whole s t job_states w g r BadNumber step is
    refusal_whole shown s t job_states w g r NoMemory step is = (ap (λ (x : State K V Q). value_of x job_states w g) step, subst (λ (x : State K V Q). Whole x job_states w g) (sym step) is)

    call_step : (s t : State K V Q) (job_states : Map ℕ (JobValue K V Q P)) (w g : ℕ) (c : Call K V) (y : CallReply V)
        → Step kind s (request_of c) (call_outcome y) t → CoreStep kind (divided path Decides) (core_of s job_states w g) (of_client (request_of c)) (to_client (call_outcome y)) (core_of t job_states w g)
    call_step s t job_states w g (Open h) replies.Unit step = (t, step, tt, refl)
    call_step s t job_states w g (Open h) (replies.Reply y) step = absurd step.1
    call_step s t job_states w g (Snapshot h to) replies.Unit step = (t, step, tt, refl)
    call_step s t job_states w g (Snapshot h to) (replies.Reply y) step = absurd step.1
    call_step s t job_states w g (Drop h) replies.Unit step = (t, step, tt, refl)
    call_step s t job_states w g (Drop h) (replies.Reply y) step = absurd step.1
    call_step s t job_states w g (On h c) replies.Unit step = absurd step.1
    call_step s t job_states w g (On h c) (replies.Reply y) step = (t, step, tt, refl)

    opens_none : (c : Call K V) → is_freeze {K = K} {V = V} {Q = Q} (request_of c) ≡ false
    opens_none (Open h) = refl
    opens_none (Snapshot h to) = refl
    opens_none (Drop h) = refl
    opens_none (On h c) = refl

    closes_none : (c : Call K V) → job_of {K = K} {V = V} {Q = Q} (request_of c) ≡ None
    closes_none (Open h) = refl
    closes_none (Snapshot h to) = refl
    closes_none (Drop h) = refl
    closes_none (On h c) = refl

    -- a call leaves all parts
    call_parts : (ps : Map ℕ (List P)) (c : Call K V) (y : CallReply V) → PartsStep {P = P} {K = K} {V = V} {Q = Q} {B = plain.Summary K V I} ps (to_client (call_outcome y)) (of_client (request_of c)) ps
    call_parts ps (Open h) replies.Unit = refl
    call_parts ps (Open h) (replies.Reply y) = refl
    call_parts ps (Snapshot h to) replies.Unit = refl
    call_parts ps (Snapshot h to) (replies.Reply y) = refl
    call_parts ps (Drop h) replies.Unit = refl
    call_parts ps (Drop h) (replies.Reply y) = refl
    call_parts ps (On h c) replies.Unit = refl
    call_parts ps (On h c) (replies.Reply y) = refl

    -- a call
    pub call_whole : OthersKeepJobs kind → (s t : State K V Q) (job_states : Map ℕ (JobValue K V Q P)) (w g : ℕ) (c : Call K V) (answer : Result (CallReply V) Refusal)
        → IsStep kind s (request_of c) call_outcome answer t → Whole s job_states w g
        → IsAnswered kind (divided path Decides) (value_of s job_states w g) (of_client (request_of c)) (outcome_of_call answer) (value_of t job_states w g) × Whole t job_states w g
    call_whole keep s t job_states w g c (Ok y) step is =
        let core = call_step s t job_states w g c y step in (
          record { told = to_client (call_outcome y); shown = refl; step = core; parts = call_parts (all_parts job_states) c y },
          quiet s t job_states w g (request_of c) (call_outcome y) (keep s t (request_of c) (call_outcome y) (opens_none c) (closes_none c) step) core is,
        )
    call_whole keep s t job_states w g c (Err e) step is = refusal_whole call_outcome s t job_states w g (request_of c) e step is

    -- a view
    pub view_whole : OthersKeepJobs kind → (s t : State K V Q) (job_states : Map ℕ (JobValue K V Q P)) (w g h : ℕ) (answer : Result (Map K V) Refusal)
        → IsStep kind s (view h) view_outcome answer t → Whole s job_states w g
        → IsAnswered kind (divided path Decides) (value_of s job_states w g) (of_client (view h)) (outcome_of_view answer) (value_of t job_states w g) × Whole t job_states w g
    view_whole keep s t job_states w g h (Ok m) step is =
        let core : CoreStep kind (divided path Decides) (core_of s job_states w g) (of_client (view h)) (to_client (viewed m)) (core_of t job_states w g) = (t, step, tt, refl) in (
          record { told = to_client (viewed m); shown = refl; step = core; parts = refl },
          quiet s t job_states w g (view h) (viewed m) (keep s t (view h) (viewed m) refl refl step) core is,
        )
    view_whole keep s t job_states w g h (Err e) step is = refusal_whole view_outcome s t job_states w g (view h) e step is

    -- 2. A job is opened.
    pub frozen_whole : (s t : State K V Q) (job_states : Map ℕ (JobValue K V Q P)) (w g h j : ℕ) (q : Q) (m : Map K V) (job_state : JobValue K V Q P)
        → Step kind s (freeze h q) (frozen j m) t → job_state.query ≡ q → ready job_state.query → IsJobOn R path (answers job_state.query) m job_state.worker_states → board job_state.worker_states ≡ first_board w → Whole s job_states w g
        → StepsTo kind (divided path Decides) (value_of s job_states w g) (of_client (freeze h q)) (outcomes.Frozen j) (value_of t (with_pair nat_cmp job_states j job_state) w g) × Whole t (with_pair nat_cmp job_states j job_state) w g
    frozen_whole s t job_states w g h j q m job_state step same can job first is =
        let boards : boards_of (with_pair nat_cmp job_states j job_state) ≡ with_pair nat_cmp (boards_of job_states) j (first_board w) = shown_put job_states j job_state ∙ ap (with_pair nat_cmp (boards_of job_states) j) first in
        let after : CoreState K V Q = core_of t (with_pair nat_cmp job_states j job_state) w g in
        let core : CoreStep kind (divided path Decides) (core_of s job_states w g) (of_client (freeze h q)) (to_client (frozen j m)) after =
        (t, step, tt, λ i. record { machine = t; boards = boards i; workers = w; grain = g }) in
        let opened : Job K V Q = record { query = q; frozen = m } in
        let jobs : (k : ℕ) → job_at t k ≡ cond (eq_by_cmp nat_cmp k j) (Some opened) (job_at s k) = λ k. ap (λ (x : State K V Q). job_at x k) step.1.2 ∙ at_put s.jobs j k opened in (
          record { told = to_client (frozen j m); shown = (m, refl); step = core; parts = (state_parts job_state.worker_states, parts_put job_states j job_state) },
          record {
            core = step_kept kind (divided path Decides) cuts (core_of s job_states w g) (of_client (freeze h q)) (to_client (frozen j m)) after core is.core;
            sorted = put_sorted job_states j job_state is.sorted;
            fits = λ k. subst (λ o. Fits R path answers ready o (value_at nat_cmp (with_pair nat_cmp job_states j job_state) k)) (sym (jobs k))
                (subst (Fits R path answers ready (cond (eq_by_cmp nat_cmp k j) (Some opened) (job_at s k))) (sym (at_put job_states j k job_state))
                (by_number (eq_by_cmp nat_cmp k j) opened job_state (job_at s k) (value_at nat_cmp job_states k) (record { query = same; can = can; worker_states = job }) (is.fits k)));
          },
        )
      where
        by_number : (b : Bool) (x : Job K V Q) (p : JobValue K V Q P) (o : Option (Job K V Q)) (r : Option (JobValue K V Q P)) → HasWorkerStates R path answers ready x p → Fits R path answers ready o r → Fits R path answers ready (cond b (Some x) o) (cond b (Some p) r)
        by_number true x p o r has fits = has
        by_number false x p o r has fits = fits

    -- 3. A job is closed.
    closed_whole : (s t : State K V Q) (job_states : Map ℕ (JobValue K V Q P)) (w g j : ℕ) (r : Request K V Q) (o : Outcome K V (plain.Summary K V I))
        → t.jobs ≡ without nat_cmp s.jobs j → CoreStep kind (divided path Decides) (core_of s job_states w g) (of_client r) (to_client o) (core_of t (without nat_cmp job_states j) w g)
        → Whole s job_states w g → Whole t (without nat_cmp job_states j) w g
    closed_whole s t job_states w g j r o jobs core is = record {
      core = step_kept kind (divided path Decides) cuts (core_of s job_states w g) (of_client r) (to_client o) (core_of t (without nat_cmp job_states j) w g) core is.core;
      sorted = less_sorted job_states j is.sorted;
      fits = λ k. subst (λ x. Fits R path answers ready x (value_at nat_cmp (without nat_cmp job_states j) k)) (sym (ap (λ js. value_at nat_cmp js k) jobs ∙ at_without s.jobs j k))
          (subst (Fits R path answers ready (cond (is_other nat_cmp j k) (job_at s k) None)) (sym (at_without job_states j k))
          (by_number (is_other nat_cmp j k) (job_at s k) (value_at nat_cmp job_states k) (is.fits k)));
    }
      where
        by_number : (b : Bool) (o : Option (Job K V Q)) (r : Option (JobValue K V Q P)) → Fits R path answers ready o r → Fits R path answers ready (cond b o None) (cond b r None)
        by_number true o r fits = fits
        by_number false o r fits = tt

    pub abandoned_whole : (s t : State K V Q) (job_states : Map ℕ (JobValue K V Q P)) (w g j : ℕ) → Step kind s (abandon j) made t → Whole s job_states w g
        → StepsTo kind (divided path Decides) (value_of s job_states w g) (of_client (abandon j)) outcomes.Abandoned (value_of t (without nat_cmp job_states j) w g) × Whole t (without nat_cmp job_states j) w g
    abandoned_whole s t job_states w g j step is =
        let core : CoreStep kind (divided path Decides) (core_of s job_states w g) (of_client (abandon j)) (to_client made) (core_of t (without nat_cmp job_states j) w g) =
        (t, step, tt, λ i. record { machine = t; boards = shown_without job_states j i; workers = w; grain = g }) in (
          record { told = to_client made; shown = refl; step = core; parts = parts_without job_states j },
          closed_whole s t job_states w g j (abandon j) made (ap (λ (x : State K V Q). x.jobs) step.1) core is,
        )

    -- 4. An open job.
    -- what is true of an open job with its workers' states
    pub record IsOpen (s : State K V Q) (job_states : Map ℕ (JobValue K V Q P)) (w g j : ℕ) (job_state : JobValue K V Q P) : Type 0 where
      pub job : Job K V Q
      pub named : job_at s j ≡ Some job
      pub has : HasWorkerStates R path answers ready job job_state
      pub board_is : board_of (core_of s job_states w g) j ≡ board job_state.worker_states
      pub map_is : frozen_map (core_of s job_states w g) j ≡ job.frozen
      pub here : value_at nat_cmp job_states j ≡ Some job_state

    pub is_open : (s : State K V Q) (job_states : Map ℕ (JobValue K V Q P)) (w g j : ℕ) (job_state : JobValue K V Q P) → value_at nat_cmp job_states j ≡ Some job_state → Whole s job_states w g → IsOpen s job_states w g j job_state
    is_open s job_states w g j job_state here is =
        let job = its_job (job_at s j) job_state (subst (Fits R path answers ready (job_at s j)) here (is.fits j)) in
        record {
          job = job.0;
          named = job.1;
          has = job.2;
          board_is = ap (λ o. unwrap_or o []) (shown_at job_states j ∙ ap (option_map (λ x. board x.worker_states)) here);
          map_is = ap (λ (o : Option (Job K V Q)). unwrap_or (option_map (λ x. x.frozen) o) []) job.1;
          here = here;
        }
      where
        its_job : (o : Option (Job K V Q)) (p : JobValue K V Q P) → Fits R path answers ready o (Some p) → (x : Job K V Q) × (o ≡ Some x) × HasWorkerStates R path answers ready x p
        its_job (Some x) p fits = (x, refl, fits)
        its_job None p fits = absurd fits

    -- it is not refused
    pub not_refused : (s : State K V Q) (j : ℕ) (job : Job K V Q) → job_at s j ≡ Some job → refusal kind s (finish j) ≡ None
    not_refused s j job named = ap (λ (o : Option (Job K V Q)). first_of ((not (is_some o), NoJob) ∷ (false, Taken) ∷ (false, TooManyJobs) ∷ (false, Full) ∷ [])) named

    -- what a worker's pairs decide, in the words of the core and in those of the job
    settled_to : (o : Option (Job K V Q)) (m n : Map K V) (b d : Board) (job : Job K V Q) (q : Q) (v : ℕ) → o ≡ Some job → m ≡ n → b ≡ d → q ≡ job.query
        → IsSomeAnd o (λ x. Decides x.query (parts path m (worker b v).worked)) → Decides q (parts path n (worker d v).worked)
    settled_to o m n b d job q v named same_map same_board same_query is_so =
        subst (λ r. Decides r (parts path n (worker d v).worked)) (sym same_query)
        (subst (λ (c : Board). Decides job.query (parts path n (worker c v).worked)) same_board
        (subst (λ (k : Map K V). Decides job.query (parts path k (worker b v).worked)) same_map
        (subst (λ (y : Option (Job K V Q)). IsSomeAnd y (λ x. Decides x.query (parts path m (worker b v).worked))) named is_so)))

    settled_from : (o : Option (Job K V Q)) (m n : Map K V) (b d : Board) (job : Job K V Q) (q : Q) (v : ℕ) → o ≡ Some job → m ≡ n → b ≡ d → q ≡ job.query
        → Decides q (parts path n (worker d v).worked) → IsSomeAnd o (λ x. Decides x.query (parts path m (worker b v).worked))
    settled_from o m n b d job q v named same_map same_board same_query is_so =
        subst (λ (y : Option (Job K V Q)). IsSomeAnd y (λ x. Decides x.query (parts path m (worker b v).worked))) (sym named)
        (subst (λ (k : Map K V). Decides job.query (parts path k (worker b v).worked)) (sym same_map)
        (subst (λ (c : Board). Decides job.query (parts path n (worker c v).worked)) (sym same_board)
        (subst (λ r. Decides r (parts path n (worker d v).worked)) same_query is_so)))

    pub long_states : (s : State K V Q) (job_states : Map ℕ (JobValue K V Q P)) (w g j : ℕ) (job_state : JobValue K V Q P) → IsOpen s job_states w g j job_state → Whole s job_states w g → length job_state.worker_states ≡ w
    long_states s job_states w g j job_state stands is =
        sym (length-map job_state.worker_states worker_of) ∙ ap length (sym stands.board_is)
        ∙ (its_board (IsBoard w) (value_at nat_cmp (boards_of job_states) j) (is.core.matches j ∙ ap is_some stands.named) (is.core.boards j)).long

    -- an open job that can't be collected
    pub unfinished_whole : (s : State K V Q) (job_states : Map ℕ (JobValue K V Q P)) (w g j : ℕ) (job_state : JobValue K V Q P) (stands : IsOpen s job_states w g j job_state)
        → IsCollected path (answers job_state.query) (Decides job_state.query) stands.job.frozen job_state.worker_states None → Whole s job_states w g
        → StepsTo kind (divided path Decides) (value_of s job_states w g) (of_client (finish j)) outcomes.Unfinished (value_of s job_states w g)
    unfinished_whole s job_states w g j job_state stands left is = record {
      told = to_client unfinished;
      shown = refl;
      step = (
        s,
        (not_refused s j stands.job stands.named, refl),
        record {
          untiled = λ tile. left.0 (ap waiting (sym stands.board_is) ∙ (job_tiles (core_of s job_states w g) j is.core (ap is_some stands.named)).0 tile);
          unsettled = λ v there settled. left.1 (v, omega (arith, there, long_states s job_states w g j job_state stands is), settled_to (job_at s j) (frozen_map (core_of s job_states w g) j) stands.job.frozen (board_of (core_of s job_states w g) j) (board job_state.worker_states) stands.job job_state.query v stands.named stands.map_is stands.board_is stands.has.query settled);
        },
        refl,
      );
      parts = refl;
    }

    -- where a part may be collected, the job is not unfinished
    pub may_finish : (s : State K V Q) (job_states : Map ℕ (JobValue K V Q P)) (w g j : ℕ) (job_state : JobValue K V Q P) (stands : IsOpen s job_states w g j job_state)
        → MayCollect path (answers job_state.query) (Decides job_state.query) stands.job.frozen job_state.worker_states → Whole s job_states w g → IsUnfinished (divided path Decides) (core_of s job_states w g) j → ⊥
    may_finish s job_states w g j job_state stands (inl none) is un =
        un.untiled ((job_tiles (core_of s job_states w g) j is.core (ap is_some stands.named)).1 (ap waiting stands.board_is ∙ none))
    may_finish s job_states w g j job_state stands (inr some) is un =
        un.unsettled some.0 (omega (arith, some.1, long_states s job_states w g j job_state stands is)) (settled_from (job_at s j) (frozen_map (core_of s job_states w g) j) stands.job.frozen (board_of (core_of s job_states w g) j) (board job_state.worker_states) stands.job job_state.query some.0 stands.named stands.map_is stands.board_is stands.has.query some.2)

    -- the part that was collected answers the job's whole map
    pub collected_whole : ((m : Map K V) (is : List Interval) → Tile is whole → parts path m is ≡ m) → (s : State K V Q) (job_states : Map ℕ (JobValue K V Q P)) (w g j : ℕ) (job_state : JobValue K V Q P) (stands : IsOpen s job_states w g j job_state) (part : P)
        → IsCollected path (answers job_state.query) (Decides job_state.query) stands.job.frozen job_state.worker_states (Some part) → Whole s job_states w g
        → answers stands.job.query stands.job.frozen part × (IsUnfinished (divided path Decides) (core_of s job_states w g) j → ⊥)
    collected_whole tiled s job_states w g j job_state stands part (inl joined) is =
        let tile = (job_tiles (core_of s job_states w g) j is.core (ap is_some stands.named)).1 (ap waiting stands.board_is ∙ joined.0) in (
          subst (λ q. answers q stands.job.frozen part) stands.has.query (subst (λ (m : Map K V). answers job_state.query m part) (tiled stands.job.frozen (all_worked (board job_state.worker_states)) (subst (λ (b : Board). Tile (all_worked b) whole) stands.board_is tile)) joined.1),
          may_finish s job_states w g j job_state stands (inl joined.0) is,
        )
    collected_whole tiled s job_states w g j job_state stands part (inr settled) is = (
      subst (λ q. answers q stands.job.frozen part) stands.has.query settled.0,
      may_finish s job_states w g j job_state stands (inr settled.1) is,
    )

    -- a job is closed by its answer
    pub finished_whole : (s t : State K V Q) (job_states : Map ℕ (JobValue K V Q P)) (w g j : ℕ) (a : Answer K V I) → Step kind s (finish j) (finished (summary_of a)) t
        → (IsUnfinished (divided path Decides) (core_of s job_states w g) j → ⊥) → Whole s job_states w g
        → StepsTo kind (divided path Decides) (value_of s job_states w g) (of_client (finish j)) (outcomes.Answer a) (value_of t (without nat_cmp job_states j) w g) × Whole t (without nat_cmp job_states j) w g
    finished_whole s t job_states w g j a step exact is =
        let core : CoreStep kind (divided path Decides) (core_of s job_states w g) (of_client (finish j)) (to_client (finished (summary_of a))) (core_of t (without nat_cmp job_states j) w g) =
        (t, step, exact, λ i. record { machine = t; boards = shown_without job_states j i; workers = w; grain = g }) in (
          record { told = to_client (finished (summary_of a)); shown = refl; step = core; parts = parts_without job_states j },
          closed_whole s t job_states w g j (finish j) (finished (summary_of a)) (ap (λ (x : State K V Q). x.jobs) step.1.left) core is,
        )

    -- 5. Workers.
    tells_of : (y : MoveResult) (D E : Type 0) → (D → E) → (E → D) → TellsTruly y D → TellsTruly y E
    tells_of (took lo hi) D E to from is_so = tt
    tells_of (cut lo mid hi) D E to from is_so = tt
    tells_of uncut D E to from is_so = tt
    tells_of idle D E to from is_so = tt
    tells_of (done lo hi n true) D E to from is_so = to is_so
    tells_of (done lo hi n false) D E to from is_so = λ e. is_so (from e)

    pub refusal_is : (s : State K V Q) (job_states : Map ℕ (JobValue K V Q P)) (w g j : ℕ) (x : Move) (job_state : JobValue K V Q P) (b : Bool) → IsOpen s job_states w g j job_state → list_any (λ v. nat_le w v) (named_by x) ≡ b
        → refusal_of (core_of s job_states w g) j x ≡ first_of ((b, NoWorker) ∷ [])
    refusal_is s job_states w g j x job_state b stands e =
        ap (λ (o : Option (Job K V Q)). first_of ((not (is_some o), NoJob) ∷ (list_any (λ v. nat_le w v) (named_by x), NoWorker) ∷ [])) stands.named
        ∙ ap (λ (c : Bool). first_of ((c, NoWorker) ∷ [])) e

    -- a move that names no worker
    pub no_worker : (s : State K V Q) (job_states : Map ℕ (JobValue K V Q P)) (w g j : ℕ) (x : Move) (job_state : JobValue K V Q P) → IsOpen s job_states w g j job_state → list_any (λ v. nat_le w v) (named_by x) ≡ true
        → StepsTo kind (divided path Decides) (value_of s job_states w g) (of_worker j x) (outcomes.Refused NoWorker) (value_of s job_states w g)
    no_worker s job_states w g j x job_state stands e = record { told = no_move NoWorker; shown = refl; step = (refusal_is s job_states w g j x job_state true stands e, refl); parts = refl }

    -- the workers that a move names have states
    pub names_states : (s : State K V Q) (job_states : Map ℕ (JobValue K V Q P)) (w g j : ℕ) (x : Move) (job_state : JobValue K V Q P) → IsOpen s job_states w g j job_state → list_any (λ v. nat_le w v) (named_by x) ≡ false → Whole s job_states w g
        → All (λ v. v < length job_state.worker_states) (named_by x)
    names_states s job_states w g j x job_state stands e is = subst (λ n. All (λ v. v < n) (named_by x)) (sym (long_states s job_states w g j job_state stands is)) (all_below w (named_by x) e)

    -- a move leaves the parts of all others
    parts_moved : (job_states : Map ℕ (JobValue K V Q P)) (j : ℕ) (job_state : JobValue K V Q P) (es : List (WorkerValue K V P)) (x : Move) (y : MoveResult) → value_at nat_cmp job_states j ≡ Some job_state
        → (state_parts es ≡ state_parts job_state.worker_states → all_parts (with_pair nat_cmp job_states j (record job_state { worker_states = es })) ≡ all_parts job_states)
        → PartsMove (state_parts job_state.worker_states) x y (state_parts es) → PartsMoved (all_parts job_states) j x y (all_parts (with_pair nat_cmp job_states j (record job_state { worker_states = es })))
    parts_moved job_states j job_state es (taking w) y here quiet same = quiet same
    parts_moved job_states j job_state es (stealing w from) y here quiet same = quiet same
    parts_moved job_states j job_state es (splitting w) y here quiet same = quiet same
    parts_moved job_states j job_state es (working w) (took lo hi) here quiet same = quiet same
    parts_moved job_states j job_state es (working w) (cut lo mid hi) here quiet same = quiet same
    parts_moved job_states j job_state es (working w) uncut here quiet same = quiet same
    parts_moved job_states j job_state es (working w) idle here quiet same = quiet same
    parts_moved job_states j job_state es (working w) (done lo hi n settled) here quiet (p, is) = (
      p,
      parts_put job_states j (record job_state { worker_states = es }) ∙ ap (with_pair nat_cmp (all_parts job_states) j) (is ∙ ap (λ (ps : List P). set ps w p) (sym (parts_here job_states j job_state here))),
    )

    -- a worker moves
    pub moved_whole : (s : State K V Q) (job_states : Map ℕ (JobValue K V Q P)) (w g j : ℕ) (x : Move) (p : Progress) (job_state : JobValue K V Q P) (es : List (WorkerValue K V P)) (stands : IsOpen s job_states w g j job_state)
        → list_any (λ v. nat_le w v) (named_by x) ≡ false → MovesTo R path (answers job_state.query) (Decides job_state.query) stands.job.frozen g job_state.worker_states x (move_result p) es
        → (state_parts es ≡ state_parts job_state.worker_states → all_parts (with_pair nat_cmp job_states j (record job_state { worker_states = es })) ≡ all_parts job_states) → Whole s job_states w g
        → StepsTo kind (divided path Decides) (value_of s job_states w g) (of_worker j x) (outcomes.Moved p) (value_of s (with_pair nat_cmp job_states j (record job_state { worker_states = es })) w g) × Whole s (with_pair nat_cmp job_states j (record job_state { worker_states = es })) w g
    moved_whole s job_states w g j x p job_state es stands e moves quiet is =
        let S : CoreState K V Q = core_of s job_states w g in
        let next : JobValue K V Q P = record job_state { worker_states = es } in
        let T : CoreState K V Q = core_of s (with_pair nat_cmp job_states j next) w g in
        let move : move_on path stands.job.frozen g job_state.worker_states x (move_result p) ≡ cores.moved_job (divided path Decides) S j x (tells_settled (move_result p)) =
        λ i. moved (λ k. cut_point path (sym stands.map_is i) k g) (λ k. length (part path (sym stands.map_is i) k)) (tells_settled (move_result p)) (sym stands.board_is i) x in
        let boards : boards_of (with_pair nat_cmp job_states j next) ≡ with_pair nat_cmp (boards_of job_states) j (cores.moved_job (divided path Decides) S j x (tells_settled (move_result p))).1 =
        shown_put job_states j next ∙ ap (with_pair nat_cmp (boards_of job_states) j) (moves.left ∙ ap (λ (t : MoveResult × Board). t.1) move) in
        let here : value_at nat_cmp (with_pair nat_cmp job_states j next) j ≡ Some next =
        at_put job_states j j next ∙ ap (λ (b : Bool). cond b (Some next) (value_at nat_cmp job_states j)) (same_ties j j refl) in
        let board_now : board_of T j ≡ board es = ap (λ o. unwrap_or o []) (shown_at (with_pair nat_cmp job_states j next) j ∙ ap (option_map (λ y. board y.worker_states)) here) in
        let decided : Decides job_state.query (parts path stands.job.frozen (worker (board es) (mover x)).worked) → IsSettled (divided path Decides) T j (mover x) =
        settled_from (job_at s j) (frozen_map T j) stands.job.frozen (board_of T j) (board es) stands.job job_state.query (mover x) stands.named stands.map_is board_now stands.has.query in
        let undecided : IsSettled (divided path Decides) T j (mover x) → Decides job_state.query (parts path stands.job.frozen (worker (board es) (mover x)).worked) =
        settled_to (job_at s j) (frozen_map T j) stands.job.frozen (board_of T j) (board es) stands.job job_state.query (mover x) stands.named stands.map_is board_now stands.has.query in
        let core : CoreStep kind (divided path Decides) S (of_worker j x) (to_worker (move_result p)) T = (
          refusal_is s job_states w g j x job_state false stands e,
          record {
            told = moves.told ∙ ap (λ (t : MoveResult × Board). t.0) move;
            left = λ i. record { machine = s; boards = boards i; workers = w; grain = g };
            truly = tells_of (move_result p) _ _ decided undecided moves.truly;
          },
        ) in (
          record { told = to_worker (move_result p); shown = refl; step = core; parts = parts_moved job_states j job_state es x (move_result p) stands.here quiet moves.parts },
          record {
            core = step_kept kind (divided path Decides) cuts S (of_worker j x) (to_worker (move_result p)) T core is.core;
            sorted = put_sorted job_states j next is.sorted;
            fits = λ k. subst (Fits R path answers ready (job_at s k)) (sym (at_put job_states j k next))
                (by_number k (eq_by_cmp nat_cmp k j) refl (value_at nat_cmp job_states k) (is.fits k));
          },
        )
      where
        same : (q r : ℕ) → eq_by_cmp nat_cmp q r ≡ true → q ≡ r
        same q r h = grind (arith, nat_tests, h)

        by_number : (k : ℕ) (b : Bool) → eq_by_cmp nat_cmp k j ≡ b → (o : Option (JobValue K V Q P)) → Fits R path answers ready (job_at s k) o → Fits R path answers ready (job_at s k) (cond b (Some (record job_state { worker_states = es })) o)
        by_number k false h o fits = fits
        by_number k true h o fits =
            subst (λ (y : Option (Job K V Q)). Fits R path answers ready y (Some (record job_state { worker_states = es }))) (sym (ap (job_at s) (same k j h) ∙ stands.named))
            (record { query = stands.has.query; can = stands.has.can; worker_states = moves.job })
