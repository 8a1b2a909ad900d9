-- The open jobs of a core, in a list and as a map from their numbers.
use Rattle.std.proofs.Common.{◌≡◌, ℕ, zero, suc, ◌<◌, Bool, true, false, not, ◌&&◌, T, cond, List, [], ◌∷◌, ◌++◌, length, map, filter, get_or, set, Option, Some, None, is_some, refl, ap, sym, ◌∙◌, arith}
use Rattle.std.specs.Prelude.{option_map, unwrap_or, slice_get}
use Rattle.std.proofs.lemmas.Option.{slice_get_read}
use Rattle.std.proofs.lemmas.Float.{T_from_true}
use Rattle.std.specs.declared.cmp.Ordering.{Ordering}
use Rattle.std.specs.declared.cmp.Ordering.TheVariants.{Less, Equal, Greater}
use Rattle.std.specs.Ordering.{nat_cmp, eq_by_cmp, is_lt}
use Rattle.std.specs.Cmp.{nat_cmp_total, eq_by_cmp_equiv, nat_cmp_is}
use Rattle.std.specs.FinMap.Entries.{by_order, below_all, is_sorted, is_sorted-put, is_sorted-where_key}
use Rattle.std.proofs.lemmas.Bool.Decides.{nat_tests}
use Rattle.versions.specs.Map.{Map, IsMap, value_at, with_pair, without, is_other}
use Rattle.worker_states.specs.WorkerValues.{board, state_parts}
use Rattle.core_steps.specs.JobStates.{JobValue, IsPlaceOf, job_state_of, job_states_of, boards_of, parts_shown, all_parts}
use Rattle.core_steps.specs.Parts.{parts_of_job, part_at}
use Rattle.core_steps.specs.declared.job_state.JobState.{JobState}
use Rattle.worker_states.proofs.WorkerLemmas.{map_append}

-- how numbers compare
pub above : (n m : ℕ) → m < n → nat_cmp n m ≡ Greater
above n m h = sym (nat_cmp_is n m Greater h)

pub tied : (n m : ℕ) → n ≡ m → nat_cmp n m ≡ Equal
tied n m h = sym (nat_cmp_is n m Equal h)

pub apart_above : (n m : ℕ) → m < n → eq_by_cmp nat_cmp n m ≡ false
apart_above n m h = grind (arith, nat_tests, h)

pub same_ties : (n m : ℕ) → n ≡ m → eq_by_cmp nat_cmp n m ≡ true
same_ties n m h = grind (arith, nat_tests, h)

less_is : (n m : ℕ) → is_lt (nat_cmp n m) ≡ true → n < m
less_is n m h = grind (arith, nat_tests, h)

both_parts : (a b : Bool) → (a && b) ≡ true → (a ≡ true) × (b ≡ true)
both_parts true b h = (refl, h)
both_parts false b h = cc

-- numbered values stay in order where one is put or taken away
true_of : (b : Bool) → T b → b ≡ true
true_of true h = refl
true_of false h = absurd h

pub put_sorted : {X : Type 0} (m : Map ℕ X) (j : ℕ) (x : X) → IsMap nat_cmp m → IsMap nat_cmp (with_pair nat_cmp m j x)
put_sorted m j x sorted = true_of (is_sorted nat_cmp (with_pair nat_cmp m j x)) (is_sorted-put nat_cmp nat_cmp_total j x m (T_from_true (is_sorted nat_cmp m) sorted))

pub less_sorted : {X : Type 0} (m : Map ℕ X) (j : ℕ) → IsMap nat_cmp m → IsMap nat_cmp (without nat_cmp m j)
less_sorted m j sorted = true_of (is_sorted nat_cmp (without nat_cmp m j)) (is_sorted-where_key nat_cmp (is_other nat_cmp j) m (T_from_true (is_sorted nat_cmp m) sorted))

-- 1. What is shown of the value of each number.
module _ {X Y : Type 0} (f : X → Y) where
  abbrev values_of : Map ℕ X → Map ℕ Y
  values_of m = map (λ e. (e.0, f e.1)) m

  pub value_put : (m : Map ℕ X) (n : ℕ) (x : X) → values_of (with_pair nat_cmp m n x) ≡ with_pair nat_cmp (values_of m) n (f x)
  value_put [] n x = refl
  value_put (e ∷ m) n x = step (nat_cmp n e.0) (value_put m n x)
    where
      step : (o : Ordering) → values_of (with_pair nat_cmp m n x) ≡ with_pair nat_cmp (values_of m) n (f x)
          → values_of (by_order o ((n, x) ∷ e ∷ m) ((e.0, x) ∷ m) (e ∷ with_pair nat_cmp m n x)) ≡ by_order o ((n, f x) ∷ (e.0, f e.1) ∷ values_of m) ((e.0, f x) ∷ values_of m) ((e.0, f e.1) ∷ with_pair nat_cmp (values_of m) n (f x))
      step Less rest = refl
      step Equal rest = refl
      step Greater rest = ap (λ (r : Map ℕ Y). (e.0, f e.1) ∷ r) rest

  pub value_without : (m : Map ℕ X) (n : ℕ) → values_of (without nat_cmp m n) ≡ without nat_cmp (values_of m) n
  value_without [] n = refl
  value_without (e ∷ m) n = step (is_other nat_cmp n e.0) (value_without m n)
    where
      step : (b : Bool) → values_of (without nat_cmp m n) ≡ without nat_cmp (values_of m) n
          → values_of (cond b (e ∷ without nat_cmp m n) (without nat_cmp m n)) ≡ cond b ((e.0, f e.1) ∷ without nat_cmp (values_of m) n) (without nat_cmp (values_of m) n)
      step true rest = ap (λ (r : Map ℕ Y). (e.0, f e.1) ∷ r) rest
      step false rest = rest

  pub value_shown : (m : Map ℕ X) (n : ℕ) → value_at nat_cmp (values_of m) n ≡ option_map f (value_at nat_cmp m n)
  value_shown [] n = refl
  value_shown (e ∷ m) n = step (eq_by_cmp nat_cmp n e.0) (value_shown m n)
    where
      step : (b : Bool) → value_at nat_cmp (values_of m) n ≡ option_map f (value_at nat_cmp m n) → cond b (Some (f e.1)) (value_at nat_cmp (values_of m) n) ≡ option_map f (cond b (Some e.1) (value_at nat_cmp m n))
      step true rest = refl
      step false rest = rest

module _ {K V Q P : Type 0} where
  -- the boards of the open jobs
  pub shown_put : (m : Map ℕ (JobValue K V Q P)) (n : ℕ) (x : JobValue K V Q P) → boards_of (with_pair nat_cmp m n x) ≡ with_pair nat_cmp (boards_of m) n (board x.worker_states)
  shown_put = value_put (λ x. board x.worker_states)

  pub shown_without : (m : Map ℕ (JobValue K V Q P)) (n : ℕ) → boards_of (without nat_cmp m n) ≡ without nat_cmp (boards_of m) n
  shown_without = value_without (λ x. board x.worker_states)

  pub shown_at : (m : Map ℕ (JobValue K V Q P)) (n : ℕ) → value_at nat_cmp (boards_of m) n ≡ option_map (λ x. board x.worker_states) (value_at nat_cmp m n)
  shown_at = value_shown (λ x. board x.worker_states)

  -- the parts of their workers
  pub parts_put : (m : Map ℕ (JobValue K V Q P)) (n : ℕ) (x : JobValue K V Q P) → all_parts (with_pair nat_cmp m n x) ≡ with_pair nat_cmp (all_parts m) n (state_parts x.worker_states)
  parts_put = value_put (λ x. state_parts x.worker_states)

  pub parts_without : (m : Map ℕ (JobValue K V Q P)) (n : ℕ) → all_parts (without nat_cmp m n) ≡ without nat_cmp (all_parts m) n
  parts_without = value_without (λ x. state_parts x.worker_states)

  pub parts_here : (m : Map ℕ (JobValue K V Q P)) (n : ℕ) (x : JobValue K V Q P) → value_at nat_cmp m n ≡ Some x → parts_of_job (all_parts m) n ≡ state_parts x.worker_states
  parts_here m n x here = ap (λ o. unwrap_or o []) (value_shown (λ (y : JobValue K V Q P). state_parts y.worker_states) m n ∙ ap (option_map (λ (y : JobValue K V Q P). state_parts y.worker_states)) here)

  -- a job that is not open has no parts
  pub parts_absent : (m : Map ℕ (JobValue K V Q P)) (n w : ℕ) → value_at nat_cmp m n ≡ None → None ≡ part_at (all_parts m) n w
  parts_absent m n w none = sym (ap (λ o. slice_get (unwrap_or o []) w) (value_shown (λ (y : JobValue K V Q P). state_parts y.worker_states) m n ∙ ap (option_map (λ (y : JobValue K V Q P). state_parts y.worker_states)) none))

  -- 2. The list of the open jobs.
  -- whether it is another job
  abbrev pub other_job_state : ℕ → JobState K V Q P → Bool
  other_job_state n p = not (eq_by_cmp nat_cmp p.number n)

  -- to keep the other jobs is to remove the number
  pub job_states_without : (ps : List (JobState K V Q P)) (n : ℕ) → job_states_of (filter (other_job_state n) ps) ≡ without nat_cmp (job_states_of ps) n
  job_states_without [] n = refl
  job_states_without (p ∷ ps) n =
      both (other_job_state n p) (job_states_without ps n) ∙ ap (λ (b : Bool). cond b (job_state_of p ∷ without nat_cmp (job_states_of ps) n) (without nat_cmp (job_states_of ps) n)) (ap not ((eq_by_cmp_equiv nat_cmp_total).symm p.number n))
    where
      both : (b : Bool) → job_states_of (filter (other_job_state n) ps) ≡ without nat_cmp (job_states_of ps) n → job_states_of (cond b (p ∷ filter (other_job_state n) ps) (filter (other_job_state n) ps)) ≡ cond b (job_state_of p ∷ without nat_cmp (job_states_of ps) n) (without nat_cmp (job_states_of ps) n)
      both true rest = ap (λ (r : Map ℕ (JobValue K V Q P)). job_state_of p ∷ r) rest
      both false rest = rest

  below_at : (x : ℕ) (ps : List (JobState K V Q P)) (k : ℕ) (d : JobState K V Q P) → below_all nat_cmp x (job_states_of ps) ≡ true → k < length ps → d ≡ get_or ps k d → x < d.number
  below_at x [] k d h there read = absurd (omega (arith, there))
  below_at x (p ∷ ps) zero d h there read = omega (arith, less_is x p.number (both_parts (is_lt (nat_cmp x p.number)) (below_all nat_cmp x (job_states_of ps)) h).0, ap (λ (q : JobState K V Q P). q.number) read)
  below_at x (p ∷ ps) (suc k) d h there read = below_at x ps k d (both_parts (is_lt (nat_cmp x p.number)) (below_all nat_cmp x (job_states_of ps)) h).1 (omega (arith, there)) read

  -- the job at a place is the one of its number
  pub value_here : (ps : List (JobState K V Q P)) (place n : ℕ) (d : JobState K V Q P) → IsMap nat_cmp (job_states_of ps) → place < length ps → d ≡ get_or ps place d → d.number ≡ n
      → value_at nat_cmp (job_states_of ps) n ≡ Some (job_state_of d).1
  value_here [] place n d sorted there read number = absurd (omega (arith, there))
  value_here (p ∷ ps) zero n d sorted there read number =
      ap (λ (b : Bool). cond b (Some (job_state_of p).1) (value_at nat_cmp (job_states_of ps) n)) (same_ties n p.number (sym number ∙ ap (λ (q : JobState K V Q P). q.number) read))
      ∙ ap (λ (q : JobState K V Q P). Some (job_state_of q).1) (sym read)
  value_here (p ∷ ps) (suc k) n d sorted there read number =
      let parts = both_parts (below_all nat_cmp p.number (job_states_of ps)) (is_sorted nat_cmp (job_states_of ps)) sorted in
      ap (λ (b : Bool). cond b (Some (job_state_of p).1) (value_at nat_cmp (job_states_of ps) n)) (apart_above n p.number (omega (arith, number, below_at p.number ps k d parts.0 (omega (arith, there)) read)))
      ∙ value_here ps k n d parts.1 (omega (arith, there)) read number

  -- to change the job at a place is to change the one of its number
  pub set_is_put : (ps : List (JobState K V Q P)) (place n : ℕ) (d e : JobState K V Q P) → IsMap nat_cmp (job_states_of ps) → place < length ps → d ≡ get_or ps place d → d.number ≡ n → e.number ≡ n
      → job_states_of (set ps place e) ≡ with_pair nat_cmp (job_states_of ps) n (job_state_of e).1
  set_is_put [] place n d e sorted there read number same = absurd (omega (arith, there))
  set_is_put (p ∷ ps) zero n d e sorted there read number same =
      let here : n ≡ p.number = sym number ∙ ap (λ (q : JobState K V Q P). q.number) read in
      (λ i. ((same ∙ here) i, (job_state_of e).1) ∷ job_states_of ps)
      ∙ sym (ap (λ (o : Ordering). by_order o ((n, (job_state_of e).1) ∷ job_state_of p ∷ job_states_of ps) ((p.number, (job_state_of e).1) ∷ job_states_of ps) (job_state_of p ∷ with_pair nat_cmp (job_states_of ps) n (job_state_of e).1)) (tied n p.number here))
  set_is_put (p ∷ ps) (suc k) n d e sorted there read number same =
      let parts = both_parts (below_all nat_cmp p.number (job_states_of ps)) (is_sorted nat_cmp (job_states_of ps)) sorted in
      ap (λ (r : Map ℕ (JobValue K V Q P)). job_state_of p ∷ r) (set_is_put ps k n d e parts.1 (omega (arith, there)) read number same)
      ∙ sym (ap (λ (o : Ordering). by_order o ((n, (job_state_of e).1) ∷ job_state_of p ∷ job_states_of ps) ((p.number, (job_state_of e).1) ∷ job_states_of ps) (job_state_of p ∷ with_pair nat_cmp (job_states_of ps) n (job_state_of e).1)) (above n p.number (omega (arith, number, below_at p.number ps k d parts.0 (omega (arith, there)) read))))

  -- a job whose workers have the same parts
  pub same_parts : (ps : List (JobState K V Q P)) (place : ℕ) (d e : JobState K V Q P) → d ≡ get_or ps place d → parts_shown (job_state_of e) ≡ parts_shown (job_state_of d) → all_parts (job_states_of (set ps place e)) ≡ all_parts (job_states_of ps)
  same_parts [] place d e read same = refl
  same_parts (p ∷ ps) zero d e read same = ap (λ (x : ℕ × List P). x ∷ all_parts (job_states_of ps)) (same ∙ ap (λ (q : JobState K V Q P). parts_shown (job_state_of q)) read)
  same_parts (p ∷ ps) (suc k) d e read same = ap (λ (r : Map ℕ (List P)). parts_shown (job_state_of p) ∷ r) (same_parts ps k d e read same)

-- 3. A new number.
module _ {X : Type 0} where
  -- the numbers are below n
  abbrev pub AllBelow : ℕ → Map ℕ X → Type 0
  AllBelow n [] = Unit {0}
  AllBelow n (x ∷ m) = (x.0 < n) × AllBelow n m

  -- where no number from n on has a value
  pub below_all_values : (n : ℕ) (m : Map ℕ X) → ((j : ℕ) → is_some (value_at nat_cmp m j) ≡ true → j < n) → AllBelow n m
  below_all_values n [] h = tt
  below_all_values n (x ∷ m) h = (
    h x.0 (ap (λ (b : Bool). is_some (cond b (Some x.1) (value_at nat_cmp m x.0))) (same_ties x.0 x.0 refl)),
    below_all_values n m (λ j there. h j (later (eq_by_cmp nat_cmp j x.0) (value_at nat_cmp m j) there)),
  )
    where
      later : (b : Bool) (o : Option X) → is_some o ≡ true → is_some (cond b (Some x.1) o) ≡ true
      later true o e = refl
      later false o e = e

  -- a number above all comes last
  pub last_put : (m : Map ℕ X) (n : ℕ) (x : X) → AllBelow n m → m ++ (n, x) ∷ [] ≡ with_pair nat_cmp m n x
  last_put [] n x below = refl
  last_put (e ∷ m) n x below =
      ap (λ (r : Map ℕ X). e ∷ r) (last_put m n x below.1)
      ∙ sym (ap (λ (o : Ordering). by_order o ((n, x) ∷ e ∷ m) ((e.0, x) ∷ m) (e ∷ with_pair nat_cmp m n x)) (above n e.0 below.0))

-- to put a job behind those of lower numbers is to map its number
pub push_is_put : {K V Q P : Type 0} (ps : List (JobState K V Q P)) (p : JobState K V Q P) → AllBelow p.number (job_states_of ps) → job_states_of (ps ++ p ∷ []) ≡ with_pair nat_cmp (job_states_of ps) p.number (job_state_of p).1
push_is_put ps p below = map_append job_state_of ps (p ∷ []) ∙ last_put (job_states_of ps) p.number (job_state_of p).1 below

-- 4. What stands at a place.
module _ {K V Q P : Type 0} where
  -- the job that is read at the place of a number has it
  pub number_here : (ps : List (JobState K V Q P)) (n place : ℕ) (d : JobState K V Q P) → IsPlaceOf ps n place → d ≡ get_or ps place d → d.number ≡ n
  number_here ps n place d is read = ap (λ o. unwrap_or o n) (ap (option_map (λ (p : JobState K V Q P). p.number)) (sym (slice_get_read ps (length ps) place d refl is.inside read)) ∙ is.number)
