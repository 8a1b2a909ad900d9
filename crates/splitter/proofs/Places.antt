-- The words of a piece by the children that have its pairs, and what a middle divides them into.
use Rattle.std.proofs.Common.{◌≡◌, ℕ, zero, suc, ◌^◌, ◌<◌, ◌≤◌, ◌==◌, Bool, true, false, not, ◌||◌, cond, T, List, [], ◌∷◌, ◌++◌, length, get_or, take, drop, filter, nat_lt, refl, sym, ap, ◌∙◌, subst, arith, eqb-true}
use Rattle.std.specs.Prelude.{All, Contains}
use Rattle.std.specs.List.{list_any}
use Rattle.std.proofs.lemmas.Bool.{eq-eqb, lt-ltb, le-ltb, ltb-true, false_from_ne_true}
use Rattle.std.proofs.lemmas.Float.{T_from_true}
use Rattle.std.proofs.lemmas.List.Elements.{All-head, All-tail, All-weaker, All-contains, All-map, filter-append}
use Rattle.std.specs.declared.cmp.Ordering.{Ordering}
use Rattle.std.specs.FinMap.{is_sorted}
use Rattle.std.specs.FinMap.Entries.{where_key, is_sorted-where_key}
use Rattle.hash_path.specs.Digits.{word_bits, word_digits, digit, digits_after, lowest, fan_out}
use Rattle.hash_path.specs.Laws.{IsWord, DigitInterval, SharedDigits}
use Rattle.trie_shape.specs.Map.{Map, IsMap}
use Rattle.trie_shape.specs.Order.{walked}
use Rattle.trie_shape.specs.Tree.{Tree, entries}
use Rattle.iter.specs.Subtries.{pairs_of_all}
use Rattle.splitter.specs.Cuts.{digits_at, differ_at, words_of}
use Rattle.splitter.proofs.Ranges.{kept_rise}
use Rattle.splitter.proofs.Middles.{has_digit, digit_at}
use Rattle.splitter.proofs.CutLaws.{some_kept, an_element, get_word, words_long}
use Rattle.splitter.proofs.Rows.{Rises, among_rising, IsRow, row_digit}

true_of : (b : Bool) → T b → b ≡ true
true_of true h = refl
true_of false h = absurd h

no_length : {X : Type 0} (xs : List X) → length xs ≡ 0 → xs ≡ []
no_length [] e = refl
no_length (x ∷ xs) e = absurd (omega (arith, e))

-- words that do not differ at a level
not_differ : (words : List ℕ) (k : ℕ) → ((u v : ℕ) → Contains words u → Contains words v → digit u k ≡ digit v k) → differ_at words k ≡ false
not_differ words k same =
    false_from_ne_true (differ_at words k) (
    λ many.
    let more = ltb-true 1 (length (digits_at k words)) many in
    let first = digit_at k words 0 (omega arith) in
    let other = digit_at k words 1 more in
    let rise = kept_rise (has_digit k words) fan_out 0 1 (omega arith) more in
    omega (arith, rise, first.2, other.2, same first.0 other.0 first.1 other.1)
    )

module _ {K V : Type 0} (R : K → K → Ordering) (path : K → ℕ)
    (count : (m : Map K V) → IsMap R m → length (walked R path m) ≡ length m)
    (passing : (test : K → Bool) (m : Map K V) → where_key R test (walked R path m) ≡ walked R path (where_key R test m))
  where
    -- as many pairs pass a test in a walk as in its map
    pub count_passing : (test : K → Bool) (m : Map K V) → IsMap R m → length (where_key R test (walked R path m)) ≡ length (where_key R test m)
    count_passing test m map =
        ap length (passing test m) ∙ count (where_key R test m) (true_of (is_sorted R (where_key R test m)) (is_sorted-where_key R test m (T_from_true (is_sorted R m) map)))

    none_fails : (test : ℕ → Bool) (es : Map K V) → All (λ e. test (path e.0) ≡ true) es → where_key R (λ k. not (test (path k))) es ≡ []
    none_fails test [] h = refl
    none_fails test (e ∷ es) h =
        ap (λ b. cond (not b) (e ∷ where_key R (λ k. not (test (path k))) es) (where_key R (λ k. not (test (path k))) es)) (All-head (λ x. test (path x.0) ≡ true) e es h)
        ∙ none_fails test es (All-tail (λ x. test (path x.0) ≡ true) e es h)

    -- what is true of the words of a walk is true of the words of its map
    pub all_of_walk : (test : ℕ → Bool) (m : Map K V) → IsMap R m → All (λ e. test (path e.0) ≡ true) (walked R path m) → (w : ℕ) → Contains (words_of path m) w → test w ≡ true
    all_of_walk test m map all w there = by (test w) refl
      where
        by : (b : Bool) → test w ≡ b → b ≡ true
        by true e = refl
        by false e =
            let none = ap length (none_fails test (walked R path m) all) in
            let same = count_passing (λ k. not (test (path k))) m map in
            let short : there.0 < length m = omega (arith, there.1, words_long path m) in
            let x : K × V = an_element m (omega arith) in
            let word : path (get_or m there.0 x).0 ≡ w = sym (get_word path m there.0 w x short) ∙ there.2 in
            let kept = some_kept (λ y. not (test (path y.0))) m there.0 x short (ap (λ v. not (test v)) word ∙ ap not e) in
            absurd (omega (arith, none, same, kept))

    any_is_some : (test : ℕ → Bool) (m : Map K V) → list_any test (words_of path m) ≡ nat_lt 0 (length (where_key R (λ k. test (path k)) m))
    any_is_some test [] = sym (le-ltb 0 0 (omega arith))
    any_is_some test (e ∷ m) =
        elim (test (path e.0)) as (λ b. (b || list_any test (words_of path m)) ≡ nat_lt 0 (length (cond b (e ∷ where_key R (λ k. test (path k)) m) (where_key R (λ k. test (path k)) m)))) [
          | true ↦ sym (lt-ltb 0 (suc (length (where_key R (λ k. test (path k)) m))) (omega arith))
          | false ↦ any_is_some test m
        ]

    module _ (m : Map K V) (map : IsMap R m) (cs : List (Tree K V)) (walk : walked R path m ≡ pairs_of_all cs) where
      -- the digits of the words are those of the children
      pub digits_of_row : (level : ℕ) (ds : List ℕ) → Rises 0 fan_out ds → IsRow path level ds cs → digits_at level (words_of path m) ≡ ds
      digits_of_row level ds rise row =
          among_rising (has_digit level (words_of path m)) fan_out 0 ds rise (
          λ x le.
          any_is_some (λ w. digit w level == x) m
          ∙ ap (nat_lt 0) (sym (count_passing (λ k. digit (path k) level == x) m map))
          ∙ ap (λ es. nat_lt 0 (length (where_key R (λ k. digit (path k) level == x) es))) walk
          ∙ row_digit path level x ds cs row
          )

      -- words below a branch whose words share the digits above its level share them
      pub words_share : (level base : ℕ) → All (λ e. lowest (digits_after 0 level (path e.0)) ≡ base) (pairs_of_all cs) → (w : ℕ) → Contains (words_of path m) w → lowest (digits_after 0 level w) ≡ base
      words_share level base all w there =
          eqb-true (lowest (digits_after 0 level w)) base (
          all_of_walk (λ v. lowest (digits_after 0 level v) == base) m map
          (subst (All (λ e. (lowest (digits_after 0 level (path e.0)) == base) ≡ true)) (sym walk)
          (All-weaker (λ e. lowest (digits_after 0 level (path e.0)) ≡ base) (λ e. (lowest (digits_after 0 level (path e.0)) == base) ≡ true) (λ e h. eq-eqb (lowest (digits_after 0 level (path e.0))) base h) (pairs_of_all cs) all))
          w there
          )

      module _ (interval : DigitInterval) (shared : SharedDigits) (small : (k : K) → path k < 2 ^ word_bits) where
        is_word : (w : ℕ) → Contains (words_of path m) w → w < 2 ^ word_bits
        is_word w there = All-contains IsWord (words_of path m) w (All-map IsWord (λ e. path e.0) m (λ k d h. small (get_or m k d).0)) there

        -- so no two of them differ there
        pub words_agree : (level base : ℕ) → level ≤ word_digits → All (λ e. lowest (digits_after 0 level (path e.0)) ≡ base) (pairs_of_all cs) → (k : ℕ) → k < level → differ_at (words_of path m) k ≡ false
        words_agree level base deep all k lt =
            not_differ (words_of path m) k (
            λ u v one other.
            let at_u = words_share level base all u one in
            let at_v = words_share level base all v other in
            let here = (interval level v v deep (is_word v other) (is_word v other)).0 refl in
            let digits = (interval level u v deep (is_word u one) (is_word v other)).1 (omega (arith, at_u, at_v, here.0), omega (arith, at_u, at_v, here.1)) in
            sym ((shared level v u).0 digits k lt)
            )

    -- pairs of one word have no middle
    pub one_word_agrees : (m : Map K V) → IsMap R m → (es : Map K V) → walked R path m ≡ es → ((x y : K × V) → Contains es x → Contains es y → path x.0 ≡ path y.0) → (k : ℕ) → differ_at (words_of path m) k ≡ false
    one_word_agrees m map [] walk same k =
        let none = no_length m (omega (arith, count m map, ap length walk)) in ap (λ n. differ_at (words_of path n) k) none ∙ le-ltb 1 0 (omega arith)
    one_word_agrees m map (e ∷ es) walk same k =
        let all : All (λ x. (path x.0 == path e.0) ≡ true) (e ∷ es) = λ n d lt. eq-eqb (path (get_or (e ∷ es) n d).0) (path e.0) (same (get_or (e ∷ es) n d) e (n, lt, get_or_same (e ∷ es) n d lt) (0, omega arith, refl)) in
        let one : (w : ℕ) → Contains (words_of path m) w → w ≡ path e.0 = λ w there. eqb-true w (path e.0) (all_of_walk (λ v. v == path e.0) m map (subst (All (λ x. (path x.0 == path e.0) ≡ true)) (sym walk) all) w there) in
        not_differ (words_of path m) k (λ u v a b. ap (λ w. digit w k) (one u a ∙ sym (one v b)))
      where
        get_or_same : (xs : Map K V) (n : ℕ) (d : K × V) → n < length xs → get_or xs n (get_or xs n d) ≡ get_or xs n d
        get_or_same [] n d lt = absurd (omega arith)
        get_or_same (x ∷ xs) zero d lt = refl
        get_or_same (x ∷ xs) (suc n) d lt = get_or_same xs n d (omega arith)

-- 2. Division.
module _ {K V : Type 0} where
  keeps_all : (test : K → Bool) (es : List (K × V)) → All (λ e. test e.0 ≡ true) es → filter (λ e. test e.0) es ≡ es
  keeps_all test [] h = refl
  keeps_all test (e ∷ es) h = ap (λ b. cond b (e ∷ filter (λ x. test x.0) es) (filter (λ x. test x.0) es)) (All-head (λ x. test x.0 ≡ true) e es h) ∙ ap (λ xs. e ∷ xs) (keeps_all test es (All-tail (λ x. test x.0 ≡ true) e es h))

  keeps_none : (test : K → Bool) (es : List (K × V)) → All (λ e. test e.0 ≡ false) es → filter (λ e. test e.0) es ≡ []
  keeps_none test [] h = refl
  keeps_none test (e ∷ es) h = ap (λ b. cond b (e ∷ filter (λ x. test x.0) es) (filter (λ x. test x.0) es)) (All-head (λ x. test x.0 ≡ false) e es h) ∙ keeps_none test es (All-tail (λ x. test x.0 ≡ false) e es h)

  -- a test that the pairs below the first children alone pass
  pub keep_front : (test : K → Bool) (n : ℕ) (cs : List (Tree K V)) → ((k : ℕ) (c : Tree K V) → k < length cs → c ≡ get_or cs k c → k < n → All (λ e. test e.0 ≡ true) (entries c))
      → ((k : ℕ) (c : Tree K V) → k < length cs → c ≡ get_or cs k c → n ≤ k → All (λ e. test e.0 ≡ false) (entries c))
      → filter (λ e. test e.0) (pairs_of_all cs) ≡ pairs_of_all (take n cs)
  keep_front test zero [] front back = refl
  keep_front test (suc n) [] front back = refl
  keep_front test zero (c ∷ cs) front back =
      filter-append (λ e. test e.0) (entries c) (pairs_of_all cs)
      ∙ (λ i. keeps_none test (entries c) (back 0 c (omega arith) refl (omega arith)) i ++ keep_front test zero cs (λ k u lt e below. absurd (omega arith)) (λ k u lt e le. back (suc k) u (omega arith) e (omega arith)) i)
  keep_front test (suc n) (c ∷ cs) front back =
      filter-append (λ e. test e.0) (entries c) (pairs_of_all cs)
      ∙ (λ i. keeps_all test (entries c) (front 0 c (omega arith) refl (omega arith)) i ++ keep_front test n cs (λ k u lt e below. front (suc k) u (omega arith) e (omega arith)) (λ k u lt e le. back (suc k) u (omega arith) e (omega arith)) i)

  -- and one that those below the others alone pass
  pub keep_back : (test : K → Bool) (n : ℕ) (cs : List (Tree K V)) → ((k : ℕ) (c : Tree K V) → k < length cs → c ≡ get_or cs k c → k < n → All (λ e. test e.0 ≡ false) (entries c))
      → ((k : ℕ) (c : Tree K V) → k < length cs → c ≡ get_or cs k c → n ≤ k → All (λ e. test e.0 ≡ true) (entries c))
      → filter (λ e. test e.0) (pairs_of_all cs) ≡ pairs_of_all (drop n cs)
  keep_back test zero [] front back = refl
  keep_back test (suc n) [] front back = refl
  keep_back test zero (c ∷ cs) front back =
      filter-append (λ e. test e.0) (entries c) (pairs_of_all cs)
      ∙ (λ i. keeps_all test (entries c) (back 0 c (omega arith) refl (omega arith)) i ++ keep_back test zero cs (λ k u lt e below. absurd (omega arith)) (λ k u lt e le. back (suc k) u (omega arith) e (omega arith)) i)
  keep_back test (suc n) (c ∷ cs) front back =
      filter-append (λ e. test e.0) (entries c) (pairs_of_all cs)
      ∙ (λ i. keeps_none test (entries c) (front 0 c (omega arith) refl (omega arith)) i ++ keep_back test n cs (λ k u lt e below. front (suc k) u (omega arith) e (omega arith)) (λ k u lt e le. back (suc k) u (omega arith) e (omega arith)) i)
