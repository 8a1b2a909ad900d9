-- What the middle of a piece is, and what it divides the piece into.
use Rattle.std.proofs.Common.{◌≡◌, ℕ, zero, suc, ◌+◌, ◌-◌, ◌*◌, ◌/◌, ◌^◌, ◌<◌, ◌≤◌, Bool, true, false, ◌&&◌, cond, List, [], ◌∷◌, ◌++◌, length, get_or, take, drop, filter, nat_lt, nat_le, Some, refl, sym, ap, ◌∙◌, subst, inl, inr, arith, length-drop, length-take}
use Rattle.std.specs.Prelude.{All}
use Rattle.std.proofs.Math.Nat.{add-mul, mul-le-mul_right}
use Rattle.std.proofs.lemmas.Bool.{cases_lt, lt-ltb, le-ltb, le-leb, lt-leb}
use Rattle.std.proofs.lemmas.Bool.Decides.{nat_tests}
use Rattle.std.proofs.lemmas.List.{append-nil, drop-drop, drop-take, take-take, take_all, get_or-drop, get_or-take}
use Rattle.std.proofs.lemmas.List.Elements.{All-nil, All-cons, All-head, All-tail, All-append, All-take, All-drop}
use Rattle.std.specs.declared.cmp.Ordering.{Ordering}
use Rattle.std.specs.FinMap.Entries.{where_key}
use Rattle.hash_path.specs.Digits.{last_level, word_bits, word_digits, digit, digits_after, lowest, position, breadth, fan_out}
use Rattle.hash_path.specs.Laws.{PositionIsBelow, DigitInterval, SharedDigits, IntervalStep}
use Rattle.trie_shape.specs.Looks.{ShowsBitmap}
use Rattle.trie_shape.specs.Map.{Map, IsMap}
use Rattle.trie_shape.specs.Order.{walked}
use Rattle.trie_shape.specs.Outline.{children}
use Rattle.trie_shape.specs.Shape.{Fits}
use Rattle.trie_shape.specs.Tree.{Tree, IsTrie, digits_of, entries}
use Rattle.iter.specs.Subtries.{children_between, pairs_of_all}
use Rattle.iter.specs.Intervals.{lies_in, part}
use Rattle.iter.specs.declared.interval.Interval.{Interval}
use Rattle.splitter.specs.Cuts.{digits_at, middle, middle_of, words_of}
use Rattle.splitter.specs.Laws.{below, from}
use Rattle.splitter.specs.Places.{IsPlace}
use Rattle.splitter.proofs.Places.{digits_of_row, words_share, words_agree, keep_front, keep_back}
use Rattle.splitter.proofs.Rows.{Rises, rises_take, rises_drop, rises_apart, digits_of_rise, IsRow, row_by_number, row_take, row_drop, row_long, children_long}
use Rattle.splitter.proofs.Stretches.{word_at, middle_found}

module _ {X : Type 0} where
  filter_both : (p q r : X → Bool) → ((x : X) → r x ≡ (q x && p x)) → (xs : List X) → filter r xs ≡ filter p (filter q xs)
  filter_both p q r is [] = refl
  filter_both p q r is (x ∷ xs) =
      ap (λ b. cond b (x ∷ filter r xs) (filter r xs)) (is x)
      ∙ elim (q x) as (λ b. cond (b && p x) (x ∷ filter r xs) (filter r xs) ≡ filter p (cond b (x ∷ filter q xs) (filter q xs))) [
        | true ↦ λ i. cond (p x) (x ∷ filter_both p q r is xs i) (filter_both p q r is xs i)
        | false ↦ filter_both p q r is xs
      ]

  -- one element of a list
  pub one_of : (xs : List X) (n : ℕ) (x : X) → n < length xs → x ≡ get_or xs n x → drop n (take (n + 1) xs) ≡ x ∷ []
  one_of [] n x lt e = absurd (omega arith)
  one_of (y ∷ xs) zero x lt e = ap (λ z. z ∷ []) (sym e)
  one_of (y ∷ xs) (suc n) x lt e = let next : suc n + 1 ≡ suc (n + 1) = omega arith in ap (λ k. drop (suc n) (take k (y ∷ xs))) next ∙ one_of xs n x (omega arith) e

  pub front_between : (xs : List X) (from to n : ℕ) → from + n ≤ to → take n (drop from (take to xs)) ≡ drop from (take (from + n) xs)
  front_between xs from to n le =
      let all : to ≡ from + (to - from) = omega arith in
      ap (λ k. take n (drop from (take k xs))) all
      ∙ ap (take n) (drop-take from (to - from) xs)
      ∙ take-take n (to - from) (drop from xs) (omega arith)
      ∙ sym (drop-take from n xs)

  front_all : (P : X → Type 0) (xs ys : List X) → All P (xs ++ ys) → All P xs
  front_all P [] ys h = All-nil P
  front_all P (x ∷ xs) ys h = All-cons P x xs (All-head P x (xs ++ ys) h) (front_all P xs ys (All-tail P x (xs ++ ys) h))

  back_all : (P : X → Type 0) (xs ys : List X) → All P (xs ++ ys) → All P ys
  back_all P [] ys h = h
  back_all P (x ∷ xs) ys h = back_all P xs ys (All-tail P x (xs ++ ys) h)

module _ {K V : Type 0} (P : K × V → Type 0) where
  each_all : (ts : List (Tree K V)) → All P (pairs_of_all ts) → All (λ t. All P (entries t)) ts
  each_all [] h = All-nil (λ t. All P (entries t))
  each_all (t ∷ ts) h = All-cons (λ u. All P (entries u)) t ts (front_all P (entries t) (pairs_of_all ts) h) (each_all ts (back_all P (entries t) (pairs_of_all ts) h))

  all_each : (ts : List (Tree K V)) → All (λ t. All P (entries t)) ts → All P (pairs_of_all ts)
  all_each [] h = All-nil P
  all_each (t ∷ ts) h = All-append P (entries t) (pairs_of_all ts) (All-head (λ u. All P (entries u)) t ts h) (all_each ts (All-tail (λ u. All P (entries u)) t ts h))

  -- what is true of all pairs is true of those of some children
  pub all_between : (ts : List (Tree K V)) (from to : ℕ) → All P (pairs_of_all ts) → All P (pairs_of_all (drop from (take to ts)))
  all_between ts from to h = all_each (drop from (take to ts)) (All-drop (λ t. All P (entries t)) from (take to ts) (All-take (λ t. All P (entries t)) to ts (each_all ts h)))

  pub all_of_one : (ts : List (Tree K V)) (n : ℕ) (t : Tree K V) → n < length ts → t ≡ get_or ts n t → All P (pairs_of_all ts) → All P (entries t)
  all_of_one ts n t lt e h = subst (λ u. All P (entries u)) (sym e) (each_all ts h n t lt)

-- the stretch of a lesser digit ends before that of a greater begins
stretch_ends : (d e b : ℕ) → d < e → d * b + b ≤ e * b
stretch_ends d e b lt = omega (arith, mul-le-mul_right {m = d + 1} {n = e} b (omega arith), add-mul d 1 b)

not_less : (d e b : ℕ) → e ≤ d → e * b ≤ d * b
not_less d e b le = mul-le-mul_right {m = e} {n = d} b le

module _ {K V : Type 0} (R : K → K → Ordering) (path : K → ℕ)
    (count : (m : Map K V) → IsMap R m → length (walked R path m) ≡ length m)
    (passing : (test : K → Bool) (m : Map K V) → where_key R test (walked R path m) ≡ walked R path (where_key R test m))
    (interval : DigitInterval) (shared : SharedDigits) (step : IntervalStep) (positions : PositionIsBelow) (small : (k : K) → path k < 2 ^ word_bits)
    (fits : (t : Tree K V) (level : ℕ) → IsTrie R path level t → Fits t)
    (high : (t : Tree K V) (level b : ℕ) → IsTrie R path level t → ShowsBitmap b t → level ≤ last_level)
    (stands : (t u : Tree K V) (level n : ℕ) → IsTrie R path level t → n < length (children t) → u ≡ get_or (children t) n u → IsTrie R path (level + 1) u × (0 < length (entries u)))
    (digits : (t u : Tree K V) (level b n : ℕ) → IsTrie R path level t → ShowsBitmap b t → n < length (children t) → u ≡ get_or (children t) n u → All (λ e. digit (path e.0) level ≡ get_or (digits_of b) n 0) (entries u))
    (pairs : (t : Tree K V) (b : ℕ) → ShowsBitmap b t → entries t ≡ pairs_of_all (children t))
    (m : Map K V) (i : Interval) (t : Tree K V) (b level base from_n to_n : ℕ) (place : IsPlace R path m i t b level base from_n to_n)
  where
    abbrev cs : List (Tree K V)
    cs = children_between t from_n to_n

    abbrev ds : List ℕ
    ds = drop from_n (take to_n (digits_of b))

    abbrev width : ℕ
    width = breadth word_bits (level + 1)

    -- the digit of a child by its number
    abbrev pub digit_of : ℕ → ℕ
    digit_of n = get_or (digits_of b) n 0

    row : IsRow path level ds cs
    row =
        row_drop path level from_n (take to_n (digits_of b)) (take to_n (children t))
        (
        row_take path level to_n (digits_of b) (children t)
        (
        row_by_number path level (digits_of b) (children t) (children_long t b (fits t level place.trie) place.shown)
        (λ n c lt e. (digits t c level b n place.trie place.shown lt e, (stands t c level n place.trie lt e).1))
        )
        )

    rise : Rises 0 fan_out ds
    rise = rises_drop 0 fan_out from_n (take to_n (digits_of b)) (rises_take 0 fan_out to_n (digits_of b) (digits_of_rise b))

    long : length cs ≡ to_n - from_n
    long = omega (arith, place.within, length-drop from_n (take to_n (children t)), length-take to_n (children t))

    digit_between : (k : ℕ) → k < to_n - from_n → get_or ds k 0 ≡ digit_of (from_n + k)
    digit_between k lt = get_or-drop from_n (take to_n (digits_of b)) k 0 ∙ get_or-take to_n (digits_of b) (from_n + k) 0 (omega arith)

    all_shared : All (λ e. lowest (digits_after 0 level (path e.0)) ≡ base) (pairs_of_all (children t))
    all_shared = subst (All (λ e. lowest (digits_after 0 level (path e.0)) ≡ base)) (pairs t b place.shown) place.shared

    deep : level < word_digits
    deep = omega (arith, high t level b place.trie place.shown)

    -- where the pairs below a child lie
    pub child_lies : (n : ℕ) (c : Tree K V) → n < length (children t) → c ≡ get_or (children t) n c
        → All (λ e. (base + digit_of n * width ≤ position (path e.0)) × (position (path e.0) < base + digit_of n * width + width)) (entries c)
    child_lies n c lt e k x within =
        let has = digits t c level b n place.trie place.shown lt e k x within in
        let shares = all_of_one (λ y. lowest (digits_after 0 level (path y.0)) ≡ base) (children t) n c lt e all_shared k x within in
        let at = word_at interval step level base (path (get_or (entries c) k x).0) deep (small (get_or (entries c) k x).0) shares in
        let same : digit (path (get_or (entries c) k x).0) level * width ≡ digit_of n * width = ap (λ d. d * width) has in
        (omega (arith, at.0, same), omega (arith, at.1, same))

    -- the stretch of a child begins within the positions
    pub child_within : (n : ℕ) (c : Tree K V) → n < length (children t) → c ≡ get_or (children t) n c → base + digit_of n * width < 2 ^ word_bits
    child_within n c lt e = by (entries c) (stands t c level n place.trie lt e).1 (child_lies n c lt e)
      where
        by : (es : List (K × V)) → 0 < length es → All (λ e. (base + digit_of n * width ≤ position (path e.0)) × (position (path e.0) < base + digit_of n * width + width)) es → base + digit_of n * width < 2 ^ word_bits
        by [] some h = absurd (omega arith)
        by (x ∷ es) some h = omega (arith, (h 0 x (omega arith)).0, positions (path x.0) (small x.0))

    module _ (map : (j : Interval) → IsMap R (part path m j)) where
      -- the middle of the words of a place of two children or more
      pub place_middle : 1 < to_n - from_n → middle_of (words_of path (part path m i)) ≡ Some (base + digit_of (from_n + (to_n - from_n) / 2) * width)
      place_middle many =
          let same = digits_of_row R path count passing (part path m i) (map i) cs place.walk level ds rise row in
          let few : length ds ≡ to_n - from_n = row_long path level ds cs row ∙ long in
          let alls = all_between (λ e. lowest (digits_after 0 level (path e.0)) ≡ base) (children t) from_n to_n all_shared in
          let share = words_share R path count passing (part path m i) (map i) cs place.walk level base alls in
          let agree = words_agree R path count passing (part path m i) (map i) cs place.walk interval shared small level base (omega (arith, deep)) alls in
          let found = middle_found path interval shared step small m i level base deep share agree (omega (arith, ap length same, few)) in
          let half : middle (digits_at level (words_of path (part path m i))) ≡ digit_of (from_n + (to_n - from_n) / 2) =
          ap middle same ∙ ap (λ n. get_or ds (n / 2) 0) few ∙ digit_between ((to_n - from_n) / 2) (omega arith) in
          found ∙ ap (λ d. Some (base + d * width)) half

    get_or_same : (ts : List (Tree K V)) (n : ℕ) (d : Tree K V) → n < length ts → get_or ts n d ≡ get_or ts n (get_or ts n d)
    get_or_same [] n d lt = absurd (omega arith)
    get_or_same (x ∷ ts) zero d lt = refl
    get_or_same (x ∷ ts) (suc n) d lt = get_or_same ts n d (omega arith)

    -- the stretch of each child begins within the positions
    pub stretch_within : (n : ℕ) → n < length (children t) → base + digit_of n * width < 2 ^ word_bits
    stretch_within n lt = child_within n (get_or (children t) n t) lt (get_or_same (children t) n t lt)

    module _ (half : ℕ) (some : 0 < half) (less : from_n + half < to_n) where
      abbrev mid : ℕ
      mid = base + digit_of (from_n + half) * width

      number_of : (k : ℕ) (c : Tree K V) → k < length cs → c ≡ get_or cs k c → (from_n + k < length (children t)) × (c ≡ get_or (children t) (from_n + k) c)
      number_of k c lt e = (
        omega (arith, long, lt, place.within),
        e ∙ get_or-drop from_n (take to_n (children t)) k c ∙ get_or-take to_n (children t) (from_n + k) c (omega (arith, long, lt)),
      )

      digits_apart : (k n : ℕ) → k < n → n < to_n - from_n → digit_of (from_n + k) < digit_of (from_n + n)
      digits_apart k n lt within =
          let few = row_long path level ds cs row ∙ long in
          omega (arith, rises_apart 0 fan_out ds k n rise lt (omega (arith, few)), digit_between k (omega arith), digit_between n within)

      before : (k : ℕ) (c : Tree K V) → k < length cs → c ≡ get_or cs k c → k < half → All (λ e. position (path e.0) < mid) (entries c)
      before k c lt e below n x within =
          let at = number_of k c lt e in
          let lies = child_lies (from_n + k) c at.0 at.1 n x within in
          let ends = stretch_ends (digit_of (from_n + k)) (digit_of (from_n + half)) width (digits_apart k half below (omega (arith, less))) in
          omega (arith, lies.1, ends)

      behind : (k : ℕ) (c : Tree K V) → k < length cs → c ≡ get_or cs k c → half ≤ k → All (λ e. mid ≤ position (path e.0)) (entries c)
      behind k c lt e le n x within =
          let at = number_of k c lt e in
          let lies = child_lies (from_n + k) c at.0 at.1 n x within in
          let order : digit_of (from_n + half) ≤ digit_of (from_n + k) = by_place half k le (omega (arith, long, lt)) in
          omega (arith, lies.0, not_less (digit_of (from_n + k)) (digit_of (from_n + half)) width order)
        where
          by_place : (h k : ℕ) → h ≤ k → k < to_n - from_n → digit_of (from_n + h) ≤ digit_of (from_n + k)
          by_place h k le within = elim (cases_lt h k) [ inl lt ↦ omega (arith, digits_apart h k lt within) | inr ge ↦ let same : h ≡ k = omega (arith, le, ge) in omega (arith, ap (λ n. digit_of (from_n + n)) same) ]

      -- the walk of the pairs below the middle, and of those from there on
      pub lower_walk : mid ≤ i.hi → walked R path (part path m (below i mid)) ≡ pairs_of_all (children_between t from_n (from_n + half))
      lower_walk high =
          let test : K → Bool = λ k. nat_lt (position (path k)) mid in
          ap (walked R path) (filter_both (λ e. test e.0) (λ e. lies_in i (position (path e.0))) (λ e. lies_in (below i mid) (position (path e.0))) (λ e. below_is (position (path e.0)) i.lo i.hi mid high) m)
          ∙ sym (passing test (part path m i))
          ∙ ap (where_key R test) place.walk
          ∙ keep_front test half cs (λ k c lt e first n x within. lt-ltb (position (path (get_or (entries c) n x).0)) mid (before k c lt e first n x within))
          (λ k c lt e last n x within. le-ltb (position (path (get_or (entries c) n x).0)) mid (behind k c lt e last n x within))
          ∙ ap pairs_of_all (front_between (children t) from_n to_n half (omega (arith, less)))
        where
          below_is : (p lo hi at : ℕ) → at ≤ hi → (nat_le lo p && nat_lt p at) ≡ ((nat_le lo p && nat_lt p hi) && nat_lt p at)
          below_is p lo hi at le = grind (arith, nat_tests)

      pub upper_walk : i.lo ≤ mid → walked R path (part path m (from i mid)) ≡ pairs_of_all (children_between t (from_n + half) to_n)
      upper_walk low =
          let test : K → Bool = λ k. nat_le mid (position (path k)) in
          ap (walked R path) (filter_both (λ e. test e.0) (λ e. lies_in i (position (path e.0))) (λ e. lies_in (from i mid) (position (path e.0))) (λ e. from_is (position (path e.0)) i.lo i.hi mid low) m)
          ∙ sym (passing test (part path m i))
          ∙ ap (where_key R test) place.walk
          ∙ keep_back test half cs (λ k c lt e first n x within. lt-leb mid (position (path (get_or (entries c) n x).0)) (before k c lt e first n x within))
          (λ k c lt e last n x within. le-leb mid (position (path (get_or (entries c) n x).0)) (behind k c lt e last n x within))
          ∙ ap pairs_of_all (drop-drop half from_n (take to_n (children t)))
        where
          from_is : (p lo hi at : ℕ) → lo ≤ at → (nat_le at p && nat_lt p hi) ≡ ((nat_le lo p && nat_lt p hi) && nat_le at p)
          from_is p lo hi at le = grind (arith, nat_tests)

      -- the places of both
      pub lower_place : mid ≤ i.hi → IsPlace R path m (below i mid) t b level base from_n (from_n + half)
      lower_place high = record {
        trie = place.trie;
        shown = place.shown;
        order = omega arith;
        within = omega (arith, less, place.within);
        shared = place.shared;
        walk = lower_walk high;
      }

      pub upper_place : i.lo ≤ mid → IsPlace R path m (from i mid) t b level base (from_n + half) to_n
      upper_place low = record {
        trie = place.trie;
        shown = place.shown;
        order = omega (arith, less);
        within = place.within;
        shared = place.shared;
        walk = upper_walk low;
      }

    -- 3. A place of one child.
    module _ (u : Tree K V) (only : to_n ≡ from_n + 1) (there : from_n < length (children t)) (is : u ≡ get_or (children t) from_n u) where
      pub only_walk : walked R path (part path m i) ≡ entries u
      only_walk =
          place.walk
          ∙ ap (λ k. pairs_of_all (drop from_n (take k (children t)))) only
          ∙ ap pairs_of_all (one_of (children t) from_n u there is)
          ∙ append-nil (entries u)

      -- its pairs are those of the child's children
      pub place_below : (c n : ℕ) → ShowsBitmap c u → length (children u) ≡ n → IsPlace R path m i u c (level + 1) (base + digit_of from_n * width) 0 n
      place_below c n shown few =
          let has = digits t u level b from_n place.trie place.shown there is in
          let shares = all_of_one (λ y. lowest (digits_after 0 level (path y.0)) ≡ base) (children t) from_n u there is all_shared in
          record {
            trie = (stands t u level from_n place.trie there is).0;
            shown = shown;
            order = omega arith;
            within = omega (arith, few);
            shared = λ k d lt. step level (path (get_or (entries u) k d).0) ∙ (λ j. shares k d lt j + has k d lt j * width);
            walk = only_walk ∙ pairs u c shown ∙ ap pairs_of_all (sym (take_all n (children u) (omega (arith, few))));
          }

-- no child
pub none_between : {X : Type 0} (xs : List X) (n : ℕ) → drop n (take n xs) ≡ []
none_between xs zero = refl
none_between [] (suc n) = refl
none_between (x ∷ xs) (suc n) = none_between xs n

module _ {K V : Type 0} (R : K → K → Ordering) (path : K → ℕ) (m : Map K V) (i : Interval) where
  -- the same place by other names
  pub same_place : (t u : Tree K V) (b c level deep base low f g o p : ℕ) → t ≡ u → b ≡ c → level ≡ deep → base ≡ low → f ≡ g → o ≡ p → IsPlace R path m i t b level base f o → IsPlace R path m i u c deep low g p
  same_place t u b c level deep base low f g o p e0 e1 e2 e3 e4 e5 h =
      subst (λ x. IsPlace R path m i x c deep low g p) e0
      (
      subst (λ x. IsPlace R path m i t x deep low g p) e1
      (
      subst (λ x. IsPlace R path m i t b x low g p) e2
      (
      subst (λ x. IsPlace R path m i t b level x g p) e3
      (subst (λ x. IsPlace R path m i t b level base x p) e4 (subst (λ x. IsPlace R path m i t b level base f x) e5 h))
      )
      )
      )
