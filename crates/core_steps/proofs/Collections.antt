-- The parts of a job's workers, joined.
use Rattle.std.proofs.Common.{◌≡◌, ℕ, zero, suc, ◌+◌, ◌<◌, ◌≤◌, Bool, true, false, List, [], ◌∷◌, ◌++◌, length, map, take, drop, get_or, Option, Some, None, is_none, refl, sym, ap, ◌∙◌, subst, append_assoc, inl, inr, arith}
use Rattle.std.specs.Prelude.{Contains, ◌↔◌, option_map, option_to_list, nat_lt}
use Rattle.std.specs.List.{list_any}
use Rattle.std.proofs.lemmas.Bool.{cases_Bool, false≢true}
use Rattle.std.proofs.lemmas.Bool.Decides.{nat_tests}
use Rattle.std.specs.declared.cmp.Ordering.{Ordering}
use Rattle.std.proofs.lemmas.List.{take_more, take_all, drop_more, drop_all, append-nil}
use Rattle.std.proofs.lemmas.List.Elements.{All-get_or, All-contains, All-contains_itself, All-filter}
use Rattle.std.proofs.lemmas.List.Sums.{sum_by-append}
use Rattle.hash_path.specs.Digits.{position}
use Rattle.trie_shape.specs.Map.{Map, IsMap, ShareNoKey, union}
use Rattle.iter.specs.declared.interval.Interval.{Interval}
use Rattle.iter.specs.Intervals.{AreApart, lies_in, cover, parts}
use Rattle.combiner.specs.Unions as unions
use Rattle.combiner.specs.Bulks.{Apart, IsJoined}
use Rattle.worker_states.specs.Boards.{Worker, all_worked}
use Rattle.splitter.specs.Portion.{Portion}
use Rattle.worker_states.specs.WorkerValues.{WorkerValue, interval_of, worker_of, board, result_of, results, HasPart, IsJobOn}
use Rattle.core_steps.specs.Collected.{HasDecided, IsSettledPart, IsCollected}
use Rattle.core_steps.proofs.Beginnings.{no_parts}
use Rattle.worker_states.proofs.WorkerLemmas.{worker_is}
use Rattle.worker_states.proofs.Covers.{once}
use Rattle.core_steps.proofs.Tilings.{weights}
use Rattle.core_steps.specs.Invariants.{waiting, waiting_of}
use Rattle.worker_states.proofs.Workings.{few_together, result_at}

module _ {K V P : Type 0} where
  -- what was worked, worker by worker
  worked_snoc : (ds : List (WorkerValue K V P)) (d : WorkerValue K V P) → all_worked (board (ds ++ d ∷ [])) ≡ all_worked (board ds) ++ d.worked
  worked_snoc [] d = append-nil d.worked
  worked_snoc (x ∷ ds) d = ap (λ is. x.worked ++ is) (worked_snoc ds d) ∙ sym (append_assoc x.worked (all_worked (board ds)) d.worked)

  pub worked_more : (ds : List (WorkerValue K V P)) (n : ℕ) (d : WorkerValue K V P) → n < length ds → d ≡ get_or ds n d → all_worked (board (take (n + 1) ds)) ≡ all_worked (board (take n ds)) ++ d.worked
  worked_more ds n d there read = ap (λ (xs : List (WorkerValue K V P)). all_worked (board xs)) (take_more ds n d there ∙ ap (λ x. take n ds ++ x ∷ []) (sym read)) ∙ worked_snoc (take n ds) d

  cover_take : (n : ℕ) (ds : List (WorkerValue K V P)) (p : ℕ) → cover (all_worked (board (take n ds))) p ≤ cover (all_worked (board ds)) p
  cover_take zero ds p = omega arith
  cover_take (suc n) [] p = omega arith
  cover_take (suc n) (x ∷ ds) p = omega (arith, sum_by-append (λ i. once i p) x.worked (all_worked (board (take n ds))), sum_by-append (λ i. once i p) x.worked (all_worked (board ds)), cover_take n ds p)

-- the part answers what the first workers have worked
abbrev pub Joined : {K V P : Type 0} (path : K → ℕ) (answers : Map K V → P → Type 0) (m : Map K V) → List (WorkerValue K V P) → ℕ → P → Type 0
Joined path answers m ds n all = answers (parts path m (all_worked (board (take n ds)))) all

module _ {K V P : Type 0} (R : K → K → Ordering) (path : K → ℕ)
    (law_map : (m : Map K V) (is : List Interval) → IsMap R m → IsMap R (parts path m is))
    (law_apart : (m : Map K V) (is js : List Interval) → AreApart (is ++ js) → ShareNoKey R (parts path m is) (parts path m js))
    (law_union : (m : Map K V) (is js : List Interval) → IsMap R m → parts path m (is ++ js) ≡ union R (parts path m is) (parts path m js))
    (answers : Map K V → P → Type 0) (m : Map K V) (ds : List (WorkerValue K V P)) (job : IsJobOn R path answers m ds)
  where
    apart_so_far : (n : ℕ) (d : WorkerValue K V P) → n < length ds → d ≡ get_or ds n d → AreApart (all_worked (board (take n ds)) ++ d.worked)
    apart_so_far n d there read p =
        omega (arith, ap (λ is. cover is p) (worked_more ds n d there read), cover_take (n + 1) ds p, weights (λ i. once i p) (board ds), job.apart p)

    maps : (n : ℕ) (d : WorkerValue K V P) → n < length ds → d ≡ get_or ds n d → unions.AreApart R (parts path m (all_worked (board (take n ds)))) (parts path m d.worked)
    maps n d there read = record {
      left = law_map m (all_worked (board (take n ds))) job.sorted;
      right = law_map m d.worked job.sorted;
      apart = law_apart m (all_worked (board (take n ds))) d.worked (apart_so_far n d there read);
      few = omega (arith, few_together path m (all_worked (board (take n ds))) d.worked (apart_so_far n d there read), job.few);
    }

    its_part : (n : ℕ) (d : WorkerValue K V P) → n < length ds → d ≡ get_or ds n d → answers (parts path m d.worked) d.part
    its_part n d there read = subst (HasPart R path answers m) (result_at ds n d ∙ ap result_of (sym read)) (All-get_or (HasPart R path answers m) (results ds) n (result_of d) (omega (arith, count ds, there)) job.answered)
      where
        count : (xs : List (WorkerValue K V P)) → length (results xs) ≡ length xs
        count [] = refl
        count (x ∷ xs) = ap suc (count xs)

    pub may_join_next : (n : ℕ) (d : WorkerValue K V P) (all : P) → n < length ds → d ≡ get_or ds n d → Joined path answers m ds n all → Apart R answers all d.part
    may_join_next n d all there read so_far = record {
      first = parts path m (all_worked (board (take n ds)));
      second = parts path m d.worked;
      first_is = so_far;
      second_is = its_part n d there read;
      apart = maps n d there read;
    }

    pub joined_next : (n : ℕ) (d : WorkerValue K V P) (all next : P) → n < length ds → d ≡ get_or ds n d → Joined path answers m ds n all → IsJoined R answers all d.part next → Joined path answers m ds (n + 1) next
    joined_next n d all next there read so_far join =
        let both : parts path m (all_worked (board (take (n + 1) ds))) ≡ union R (parts path m (all_worked (board (take n ds)))) (parts path m d.worked) =
        ap (parts path m) (worked_more ds n d there read) ∙ law_union m (all_worked (board (take n ds))) d.worked job.sorted in
        subst (λ (k : Map K V). answers k next) (sym both) (join (parts path m (all_worked (board (take n ds)))) (parts path m d.worked) so_far (its_part n d there read) (maps n d there read))

    -- after the last worker
    pub joined_all : (all : P) → Joined path answers m ds (length ds) all → answers (parts path m (all_worked (board ds))) all
    joined_all all so_far = subst (λ (xs : List (WorkerValue K V P)). answers (parts path m (all_worked (board xs))) all) (take_all (length ds) ds (omega arith)) so_far

    -- before the first one
    pub joined_none : (all : P) → answers [] all → Joined path answers m ds 0 all
    joined_none all none = subst (λ (k : Map K V). answers k all) (sym (no_parts path m)) none

    within : (is : List Interval) → unions.IsWithin (parts path m is) m
    within is x there = All-contains (Contains m) (parts path m is) x (All-filter (λ e. list_any (λ i. lies_in i (position (path e.0))) is) (Contains m) m (All-contains_itself m)) there

    -- a part that lasts answers the whole map
    pub lasting_whole : (n : ℕ) (d : WorkerValue K V P) → n < length ds → d ≡ get_or ds n d → ((k l : Map K V) → answers k d.part → unions.IsWithin k l → answers l d.part) → answers m d.part
    lasting_whole n d there read lasting = lasting (parts path m d.worked) m (its_part n d there read) (within d.worked)

    none_and_all : unions.AreApart R [] m
    none_and_all = record {
      left = subst (IsMap R) (no_parts path m) (law_map m [] job.sorted);
      right = job.sorted;
      apart = λ k e. cc;
      few = omega (arith, job.few);
    }

    -- it may be joined with the part of no pairs, which changes nothing
    pub may_join_unit : (unit part : P) → answers [] unit → answers m part → Apart R answers unit part
    may_join_unit unit part none whole = record { first = []; second = m; first_is = none; second_is = whole; apart = none_and_all }

    pub joined_unit : (unit part both : P) → answers [] unit → answers m part → IsJoined R answers unit part both → answers m both
    joined_unit unit part both none whole join = join [] m none whole none_and_all

    -- what a worker's part tells of its pairs
    pub decided_here : (D : Map K V → Type 0) (settled : Bool) (n : ℕ) (d : WorkerValue K V P) (part : P) → n < length ds → d ≡ get_or ds n d → part ≡ d.part → ((k : Map K V) → answers k part → (settled ≡ true) ↔ D k)
        → settled ≡ true → HasDecided path answers D m ds n
    decided_here D settled n d part there read same exact is_true =
        subst (λ (x : Worker). D (parts path m x.worked)) (sym (worker_is ds n d there read))
        ((exact (parts path m d.worked) (subst (answers (parts path m d.worked)) (sym same) (its_part n d there read))).0 is_true)

    undecided_here : (D : Map K V → Type 0) (settled : Bool) (n : ℕ) (d : WorkerValue K V P) (part : P) → n < length ds → d ≡ get_or ds n d → part ≡ d.part → ((k : Map K V) → answers k part → (settled ≡ true) ↔ D k)
        → settled ≡ false → HasDecided path answers D m ds n → ⊥
    undecided_here D settled n d part there read same exact is_false has =
        let is_true = (exact (parts path m d.worked) (subst (answers (parts path m d.worked)) (sym same) (its_part n d there read))).1 (subst (λ (x : Worker). D (parts path m x.worked)) (worker_is ds n d there read) has) in
        false≢true (sym is_false ∙ is_true)

    -- one worker more has not decided
    pub undecided_upto : (D : Map K V → Type 0) (settled : Bool) (n : ℕ) (d : WorkerValue K V P) (part : P) → n < length ds → d ≡ get_or ds n d → part ≡ d.part → ((k : Map K V) → answers k part → (settled ≡ true) ↔ D k)
        → settled ≡ false → ((v : ℕ) → v < n → HasDecided path answers D m ds v → ⊥) → (v : ℕ) → v < n + 1 → HasDecided path answers D m ds v → ⊥
    undecided_upto D settled n d part there read same exact is_false below v upto has =
        elim (cases_Bool (nat_lt v n)) [
          | inl e ↦ below v (less v n e) has
          | inr e ↦ undecided_here D settled n d part there read same exact is_false (subst (λ k. HasDecided path answers D m ds k) (last v n e upto) has)
        ]
      where
        less : (a b : ℕ) → nat_lt a b ≡ true → a < b
        less a b e = grind (arith, nat_tests, e)

        last : (a b : ℕ) → nat_lt a b ≡ false → a < b + 1 → a ≡ b
        last a b e upto = grind (arith, nat_tests, e, upto)

-- what waits for a worker and for those after it
pub waits_from : {K V P : Type 0} (ds : List (WorkerValue K V P)) (n : ℕ) (d : WorkerValue K V P) → n < length ds → d ≡ get_or ds n d → waiting (board (drop n ds)) ≡ waiting_of (worker_of d) ++ waiting (board (drop (n + 1) ds))
waits_from {K} {V} {P} ds n d there read = ap (λ (xs : List (WorkerValue K V P)). waiting (board xs)) (drop_more ds n d there ∙ ap (λ x. x ∷ drop (n + 1) ds) (sym read))

-- 3. Whether something waits.
module _ {K V P : Type 0} where
  pub none_left : (ds : List (WorkerValue K V P)) (n : ℕ) → length ds ≤ n → waiting (board (drop n ds)) ≡ []
  none_left ds n past = ap (λ (xs : List (WorkerValue K V P)). waiting (board xs)) (drop_all n ds past)

  nothing_here : (d : WorkerValue K V P) → is_none d.held ≡ true → (0 < length d.queue → ⊥) → waiting_of (worker_of d) ≡ []
  nothing_here d free empty = by_parts d.queue d.held free empty
    where
      by_parts : (q : List (Portion K V)) (h : Option (Portion K V)) → is_none h ≡ true → (0 < length q → ⊥) → map interval_of q ++ option_to_list (option_map interval_of h) ≡ []
      by_parts [] None free empty = refl
      by_parts [] (Some p) free empty = cc
      by_parts (p ∷ q) h free empty = absurd (empty (omega arith))

  -- the others are left where nothing waits for a worker
  pub none_waits_here : (ds : List (WorkerValue K V P)) (n : ℕ) (d : WorkerValue K V P) → n < length ds → d ≡ get_or ds n d → is_none d.held ≡ true → (0 < length d.queue → ⊥)
      → waiting (board (drop n ds)) ≡ waiting (board (drop (n + 1) ds))
  none_waits_here ds n d there read free empty = waits_from ds n d there read ∙ ap (λ is. is ++ waiting (board (drop (n + 1) ds))) (nothing_here d free empty)

  -- something waits for a worker
  pub held_waits : (ds : List (WorkerValue K V P)) (n : ℕ) (d : WorkerValue K V P) → n < length ds → d ≡ get_or ds n d → is_none d.held ≡ false → waiting (board (drop n ds)) ≡ [] → ⊥
  held_waits ds n d there read held none = some d.queue d.held (waiting (board (drop (n + 1) ds))) held (sym (waits_from ds n d there read) ∙ none)
    where
      some : (q : List (Portion K V)) (h : Option (Portion K V)) (rest : List Interval) → is_none h ≡ false → (map interval_of q ++ option_to_list (option_map interval_of h)) ++ rest ≡ [] → ⊥
      some [] None rest held none = cc
      some [] (Some p) rest held none = cc
      some (p ∷ q) h rest held none = cc

  pub queue_waits : (ds : List (WorkerValue K V P)) (n : ℕ) (d : WorkerValue K V P) → n < length ds → d ≡ get_or ds n d → 0 < length d.queue → waiting (board (drop n ds)) ≡ [] → ⊥
  queue_waits ds n d there read long none = some d.queue d.held (waiting (board (drop (n + 1) ds))) long (sym (waits_from ds n d there read) ∙ none)
    where
      some : (q : List (Portion K V)) (h : Option (Portion K V)) (rest : List Interval) → 0 < length q → (map interval_of q ++ option_to_list (option_map interval_of h)) ++ rest ≡ [] → ⊥
      some [] h rest long none = absurd (omega (arith, long))
      some (p ∷ q) h rest long none = cc

-- 4. A part that answers the whole map.
module _ {K V P : Type 0} (path : K → ℕ) (answers : Map K V → P → Type 0) (D : Map K V → Type 0) (m : Map K V) where
  -- where something waits, a settled part is what is collected
  pub settled_collects : (ds : List (WorkerValue K V P)) (part : Option P) → (waiting (board ds) ≡ [] → ⊥) → IsSettledPart path answers D m ds part → IsCollected path answers D m ds part
  settled_collects ds (Some p) waits settled = inr settled
  settled_collects ds None waits settled = (waits, settled)
