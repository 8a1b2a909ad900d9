-- Tokens beside open jobs, where jobs are opened and closed.
use Rattle.std.proofs.Common.{◌≡◌, ℕ, zero, suc, ◌<◌, ◌==◌, Bool, true, false, not, cond, List, [], ◌∷◌, ◌++◌, length, filter, get_or, Option, Some, None, option_map, refl, subst, sym, ap, ◌∙◌, arith}
use Rattle.std.specs.Prelude.{Contains, IfOk, MatchResult, Result, Ok, Err}
use Rattle.std.specs.Ordering.{nat_cmp, eq_by_cmp}
use Rattle.std.specs.Cmp.{nat_cmp_total}
use Rattle.std.specs.FinMap.Entries.{find-put, find-where_key}
use Rattle.std.specs.FinMap.{nat_cmp-IsAntisymmetric}
use Rattle.std.proofs.lemmas.Bool.Decides.{nat_tests}
use Rattle.boxcar.specs.Table.{Shelves, Shows}
use Rattle.bulk_work.specs.Answers as plain
use Rattle.bulk_work.specs.Summaries.{summary_of}
use Rattle.bulk_work.specs.declared.asks.Answer.{Answer}
use Rattle.versions.specs.Map.{Map, value_at, with_pair, without}
use Rattle.versions.specs.Map as map
use Rattle.versions.specs.declared.refusal.Refusal.{Refusal}
use Rattle.versions.specs.declared.refusal.Refusal.TheVariants.{NoHandle, Taken, Full, NoJob, Unfinished, NoWorker, TooManyJobs, JournalFull, NoMemory, BadNumber}
use Rattle.handles.specs.Machine.{Kind, State, Job, freeze, finish, abandon, frozen, finished, made, Step, job_at}
use Rattle.handles.specs.Laws.{FreezesOpenJobs}
use Rattle.handles.specs.Views.{IsStep, finished_outcome, frozen_outcome, unit_outcome, lacks_memory}
use Rattle.journal.specs.Answers.{answered}
use Rattle.journal.specs.Journals.{Entered}
use Rattle.journal.specs.Tokens.{entry_at}
use Rattle.journal.specs.Kept.{IsOpen, AllOpen, WasOpenedBy, is_other, opened_by}
use Rattle.journal.specs.declared.frozen.Frozen.{Frozen}
use Rattle.journal.proofs.Refusing.{both_ways, open_has_no_refusal, open_may_finish}
use Rattle.journal.proofs.Runs.{open_still}

-- what stands at a number after one is put or taken away
pub at_put : {X : Type 0} (m : Map ℕ X) (j q : ℕ) (x : X) → value_at nat_cmp (with_pair nat_cmp m j x) q ≡ cond (eq_by_cmp nat_cmp q j) (Some x) (value_at nat_cmp m q)
at_put m j q x = find-put nat_cmp nat_cmp_total q j x m

pub at_without : {X : Type 0} (m : Map ℕ X) (j q : ℕ) → value_at nat_cmp (without nat_cmp m j) q ≡ cond (map.is_other nat_cmp j q) (value_at nat_cmp m q) None
at_without m j q = find-where_key nat_cmp (map.is_other nat_cmp j) q (λ x e. ap (map.is_other nat_cmp j) (sym (nat_cmp-IsAntisymmetric q x e))) m

apart : (q j : ℕ) → (q == j) ≡ false → eq_by_cmp nat_cmp q j ≡ false
apart q j h = grind (arith, nat_tests, h)

apart_back : (q j : ℕ) → (q == j) ≡ false → eq_by_cmp nat_cmp j q ≡ false
apart_back q j h = grind (arith, nat_tests, h)

module _ {K V Q I : Type 0} (t : Shelves) where
  open_more : (u : State K V Q) (fs : List (Frozen K V Q I)) (f : Frozen K V Q I) → AllOpen t u fs → IsOpen t u f → AllOpen t u (fs ++ f ∷ [])
  open_more u [] f all is = (is, tt)
  open_more u (g ∷ fs) f all is = (all.0, open_more u fs f all.1 is)

  still_open : (s u : State K V Q) (f : Frozen K V Q I) → job_at u f.number ≡ job_at s f.number → IsOpen t s f → IsOpen t u f
  still_open s u f same is = record { shown = is.shown; opener = record { job = is.opener.job; opened = is.opener.opened; stands = same ∙ is.opener.stands } }

  one_closed : (u : State K V Q) (f : Frozen K V Q I) (fs : List (Frozen K V Q I)) (b : Bool) → (b ≡ false → IsOpen t u f) → AllOpen t u fs → AllOpen t u (cond (not b) (f ∷ fs) fs)
  one_closed u f fs true is all = all
  one_closed u f fs false is all = (is refl, all)

  -- the tokens beside the other jobs, where those jobs stay
  pub closed_still : (s u : State K V Q) (j : ℕ) (fs : List (Frozen K V Q I)) → ((q : ℕ) → (q == j) ≡ false → job_at u q ≡ job_at s q) → AllOpen t s fs → AllOpen t u (filter (is_other j) fs)
  closed_still s u j [] same all = tt
  closed_still s u j (f ∷ fs) same all = one_closed u f (filter (is_other j) fs) (f.number == j) (λ e. still_open s u f (same f.number e) all.0) (closed_still s u j fs same all.1)

  -- the token that was found is beside an open job
  open_at : (s : State K V Q) (fs : List (Frozen K V Q I)) (k : ℕ) (d : Frozen K V Q I) → k < length fs → AllOpen t s fs → IsOpen t s (get_or fs k d)
  open_at s [] k d h all = absurd (omega arith)
  open_at s (f ∷ fs) zero d h all = all.0
  open_at s (f ∷ fs) (suc k) d h all = open_at s fs k d (omega arith) all.1

  pub found_open : (s : State K V Q) (fs : List (Frozen K V Q I)) (f : Frozen K V Q I) → AllOpen t s fs → Contains fs f → IsOpen t s f
  found_open s fs f all there = subst (IsOpen t s) there.2 (open_at s fs there.0 f there.1 all)

  -- its token is of the vector
  pub shown_open : (t' : Shelves) (s : State K V Q) (f : Frozen K V Q I) → t' ≡ t → IsOpen t s f → Shows t' f.token
  shown_open t' s f e is = subst (λ u. Shows u f.token) (sym e) is.shown

-- the job that was opened is the one that stands open
pub opened_stands : {K V Q B : Type 0} (s : State K V Q) (n : ℕ) (e : Entered K V Q B) (x : Job K V Q) → WasOpenedBy s n e → job_at s n ≡ Some x → opened_by e ≡ Some (n, x)
opened_stands {K = K} {V = V} {Q = Q} s n e x was is = was.opened ∙ ap (λ (o : Option (Job K V Q)). option_map (λ y. (n, y)) o) (sym was.stands ∙ is)

-- the job was opened by an equal entry, under an equal number
pub opened_as : {K V Q B : Type 0} (s : State K V Q) (n m : ℕ) (e d : Entered K V Q B) → n ≡ m → e ≡ d → WasOpenedBy s n e → WasOpenedBy s m d
opened_as s n m e d number same was = subst (λ x. WasOpenedBy s x d) number (subst (λ x. WasOpenedBy s n x) same was)

module _ {K V Q A B : Type 0} (kind : Kind K V Q A B) where
  -- what abandons an open job is its step
  pub abandons : (s u : State K V Q) (j : ℕ) (x : Job K V Q) (b : Result (Unit {0}) Refusal) → job_at s j ≡ Some x → lacks_memory b ≡ false → IsStep kind s (abandon j) unit_outcome b u → Step kind s (abandon j) made u
  abandons s u j x (Ok y) is has step = step
  abandons s u j x (Err NoHandle) is has step = both_ways NoHandle _ step.0 (open_has_no_refusal kind s j x is)
  abandons s u j x (Err Taken) is has step = both_ways Taken _ step.0 (open_has_no_refusal kind s j x is)
  abandons s u j x (Err Full) is has step = both_ways Full _ step.0 (open_has_no_refusal kind s j x is)
  abandons s u j x (Err NoJob) is has step = both_ways NoJob _ step.0 (open_has_no_refusal kind s j x is)
  abandons s u j x (Err Unfinished) is has step = both_ways Unfinished _ step.0 (open_has_no_refusal kind s j x is)
  abandons s u j x (Err NoWorker) is has step = both_ways NoWorker _ step.0 (open_has_no_refusal kind s j x is)
  abandons s u j x (Err TooManyJobs) is has step = both_ways TooManyJobs _ step.0 (open_has_no_refusal kind s j x is)
  abandons s u j x (Err JournalFull) is has step = both_ways JournalFull _ step.0 (open_has_no_refusal kind s j x is)
  abandons s u j x (Err NoMemory) is has step = cc
  abandons s u j x (Err BadNumber) is has step = both_ways BadNumber _ step.0 (open_has_no_refusal kind s j x is)

  -- the other jobs stay where one is abandoned
  pub abandon_keeps : (s u : State K V Q) (j q : ℕ) → Step kind s (abandon j) made u → (q == j) ≡ false → job_at u q ≡ job_at s q
  abandon_keeps s u j q step e = ap (λ x. job_at x q) step.1 ∙ at_without s.jobs j q ∙ ap (λ b. cond (not b) (job_at s q) None) (apart_back q j e)

module _ {K V Q A I : Type 0} (kind : Kind K V Q A (plain.Summary K V I)) where
  -- what finishes an open job is its step, and tells what its part does
  pub finishes : (s u : State K V Q) (j : ℕ) (x : Job K V Q) (p : plain.Summary K V I) (b : Result (Answer K V I) Refusal) → job_at s j ≡ Some x → lacks_memory b ≡ false
      → IfOk b (λ a. summary_of a ≡ p) → IsStep kind s (finish j) finished_outcome b u → Step kind s (finish j) (finished p) u
  finishes s u j x p (Ok a) is has told step = subst (λ y. Step kind s (finish j) (finished y) u) told step
  finishes s u j x p (Err NoHandle) is has told step = both_ways NoHandle _ step.0 (open_may_finish kind s j x is)
  finishes s u j x p (Err Taken) is has told step = both_ways Taken _ step.0 (open_may_finish kind s j x is)
  finishes s u j x p (Err Full) is has told step = both_ways Full _ step.0 (open_may_finish kind s j x is)
  finishes s u j x p (Err NoJob) is has told step = both_ways NoJob _ step.0 (open_may_finish kind s j x is)
  finishes s u j x p (Err Unfinished) is has told step = both_ways Unfinished _ step.0 (open_may_finish kind s j x is)
  finishes s u j x p (Err NoWorker) is has told step = both_ways NoWorker _ step.0 (open_may_finish kind s j x is)
  finishes s u j x p (Err TooManyJobs) is has told step = both_ways TooManyJobs _ step.0 (open_may_finish kind s j x is)
  finishes s u j x p (Err JournalFull) is has told step = both_ways JournalFull _ step.0 (open_may_finish kind s j x is)
  finishes s u j x p (Err NoMemory) is has told step = cc
  finishes s u j x p (Err BadNumber) is has told step = both_ways BadNumber _ step.0 (open_may_finish kind s j x is)

  -- the finish of an open job is not refused
  pub finish_is_ok : {X : Type 0} (s u : State K V Q) (j : ℕ) (x : Job K V Q) (e : Refusal) → job_at s j ≡ Some x → lacks_memory {T = Answer K V I} (Err e) ≡ false → IsStep {T = Answer K V I} kind s (finish j) finished_outcome (Err e) u → X
  finish_is_ok s u j x NoHandle is has step = both_ways NoHandle _ step.0 (open_may_finish kind s j x is)
  finish_is_ok s u j x Taken is has step = both_ways Taken _ step.0 (open_may_finish kind s j x is)
  finish_is_ok s u j x Full is has step = both_ways Full _ step.0 (open_may_finish kind s j x is)
  finish_is_ok s u j x NoJob is has step = both_ways NoJob _ step.0 (open_may_finish kind s j x is)
  finish_is_ok s u j x Unfinished is has step = both_ways Unfinished _ step.0 (open_may_finish kind s j x is)
  finish_is_ok s u j x NoWorker is has step = both_ways NoWorker _ step.0 (open_may_finish kind s j x is)
  finish_is_ok s u j x TooManyJobs is has step = both_ways TooManyJobs _ step.0 (open_may_finish kind s j x is)
  finish_is_ok s u j x JournalFull is has step = both_ways JournalFull _ step.0 (open_may_finish kind s j x is)
  finish_is_ok s u j x NoMemory is has step = cc
  finish_is_ok s u j x BadNumber is has step = both_ways BadNumber _ step.0 (open_may_finish kind s j x is)

  -- the other jobs stay where one is finished
  pub finish_keeps : (s u : State K V Q) (j q : ℕ) (p : plain.Summary K V I) → Step kind s (finish j) (finished p) u → (q == j) ≡ false → job_at u q ≡ job_at s q
  finish_keeps s u j q p step e = ap (λ x. job_at x q) step.1.left ∙ at_without s.jobs j q ∙ ap (λ b. cond (not b) (job_at s q) None) (apart_back q j e)

module _ {K V Q A I : Type 0} (kind : Kind K V Q A (plain.Summary K V I)) (t : Shelves) where
  -- the other jobs stay where one is opened
  freeze_keeps : (s u : State K V Q) (h j q : ℕ) (x : Q) (m : Map K V) → Step kind s (freeze h x) (frozen j m) u → (q == j) ≡ false → job_at u q ≡ job_at s q
  freeze_keeps s u h j q x m step e = ap (λ y. job_at y q) step.1.2 ∙ at_put s.jobs j q (record { query = x; frozen = m }) ∙ ap (λ b. cond b (Some (record { query = x; frozen = m })) (job_at s q)) (apart q j e)

  -- the tokens beside open jobs, after a freeze
  pub frozen_still : (s u : State K V Q) (h seat : ℕ) (q : Q) (answer : Result (ℕ × Map K V) Refusal) (fs fs' : List (Frozen K V Q I)) (f : ℕ → Frozen K V Q I)
      → FreezesOpenJobs kind → ((n : ℕ) → (f n).number ≡ n) → ((n : ℕ) → Shows t (f n).token)
      → ((n : ℕ) → entry_at (f n).token ≡ record { seat = seat; request = freeze h q; outcome = answered frozen_outcome answer })
      → Step kind s (freeze h q) (answered frozen_outcome answer) u
      → MatchResult answer (λ x. fs' ≡ filter (is_other x.0) fs ++ f x.0 ∷ []) (λ _. fs' ≡ fs) → AllOpen t s fs → AllOpen t u fs'
  frozen_still s u h seat q (Ok x) fs fs' f law number shows entry step is all =
      let job : Job K V Q = record { query = q; frozen = x.1 } in
      let opened' : opened_by (entry_at (f x.0).token) ≡ Some ((f x.0).number, job) = ap opened_by (entry x.0) ∙ ap (λ n. Some (n, job)) (sym (number x.0)) in
      let stands' : job_at u (f x.0).number ≡ Some job = ap (job_at u) (number x.0) ∙ law s u h q x.0 x.1 step in
      subst (AllOpen t u) (sym is) (open_more t u (filter (is_other x.0) fs) (f x.0) (closed_still t s u x.0 fs (λ n e. freeze_keeps s u h x.0 n q x.1 step e) all)
      (record { shown = shows x.0; opener = record { job = job; opened = opened'; stands = stands' } }))
  frozen_still s u h seat q (Err e) fs fs' f law number shows entry step is all = subst (AllOpen t u) (sym is) (open_still t s u fs (ap (λ x. x.jobs) step.1) all)
