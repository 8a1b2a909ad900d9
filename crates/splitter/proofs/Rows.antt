-- Rows of children, each with the digit that its words have; and rising digits.
use Rattle.std.proofs.Common.{◌≡◌, ℕ, zero, suc, ◌+◌, ◌/◌, ◌%◌, ◌<◌, ◌≤◌, ◌==◌, Bool, true, false, ◌||◌, cond, List, [], ◌∷◌, ◌++◌, length, get_or, take, drop, filter, nat_lt, refl, sym, ap, ◌∙◌, subst, inl, inr, arith, length-append, eqb-true}
use Rattle.std.specs.Prelude.{All}
use Rattle.std.specs.List.{list_any, range_with_len}
use Rattle.std.proofs.lemmas.Bool.{cases_lt, eq-eqb, lt-ltb, le-ltb, false_from_ne_true}
use Rattle.std.proofs.lemmas.List.Elements.{All-head, All-tail, filter-append}
use Rattle.std.proofs.lemmas.List.Concat.{flat_map-append}
use Rattle.hash_path.specs.Digits.{digit, fan_out}
use Rattle.trie_shape.specs.Tree.{Tree, branch, bucket, Trees, no_trees, more_trees, digits_of, digits_from, entries}
use Rattle.trie_shape.specs.Looks.{ShowsBitmap}
use Rattle.trie_shape.specs.Outline.{children, list_of}
use Rattle.trie_shape.specs.Shape.{Fits, count_of}
use Rattle.iter.specs.Subtries.{pairs_of_all}

-- 1. Rising digits.
-- they rise, from low on and below high
abbrev pub Rises : ℕ → ℕ → List ℕ → Type 0
Rises low high [] = Unit {0}
Rises low high (d ∷ ds) = (low ≤ d) × (d < high) × Rises (d + 1) high ds

pub rises_lower : (low down high : ℕ) (ds : List ℕ) → down ≤ low → Rises low high ds → Rises down high ds
rises_lower low down high [] le h = tt
rises_lower low down high (d ∷ ds) le h = (omega (arith, h.0), h.1, h.2)

pub rises_take : (low high n : ℕ) (ds : List ℕ) → Rises low high ds → Rises low high (take n ds)
rises_take low high zero ds h = tt
rises_take low high (suc n) [] h = tt
rises_take low high (suc n) (d ∷ ds) h = (h.0, h.1, rises_take (d + 1) high n ds h.2)

pub rises_drop : (low high n : ℕ) (ds : List ℕ) → Rises low high ds → Rises low high (drop n ds)
rises_drop low high zero ds h = h
rises_drop low high (suc n) [] h = tt
rises_drop low high (suc n) (d ∷ ds) h = rises_lower (d + 1) low high (drop n ds) (omega (arith, h.0)) (rises_drop (d + 1) high n ds h.2)

-- a digit of a greater number is greater
pub rises_apart : (low high : ℕ) (ds : List ℕ) (i j : ℕ) → Rises low high ds → i < j → j < length ds → get_or ds i 0 < get_or ds j 0
rises_apart low high [] i j h lt within = absurd (omega arith)
rises_apart low high (d ∷ ds) zero zero h lt within = absurd (omega arith)
rises_apart low high (d ∷ ds) zero (suc j) h lt within = omega (arith, first (d + 1) high ds j h.2 (omega arith))
  where
    first : (low high : ℕ) (ds : List ℕ) (j : ℕ) → Rises low high ds → j < length ds → low ≤ get_or ds j 0
    first low high [] j h lt = absurd (omega arith)
    first low high (d ∷ ds) zero h lt = h.0
    first low high (d ∷ ds) (suc j) h lt = omega (arith, first (d + 1) high ds j h.2 (omega arith), h.0)
rises_apart low high (d ∷ ds) (suc i) zero h lt within = absurd (omega arith)
rises_apart low high (d ∷ ds) (suc i) (suc j) h lt within = rises_apart (d + 1) high ds i j h.2 (omega arith) (omega arith)

absent_below : (low high x : ℕ) (ds : List ℕ) → Rises low high ds → x < low → list_any (λ y. y == x) ds ≡ false
absent_below low high x [] h lt = refl
absent_below low high x (d ∷ ds) h lt =
    let other : (d == x) ≡ false = false_from_ne_true (d == x) (λ e. omega (arith, eqb-true d x e, h.0)) in
    ap (λ b. b || list_any (λ y. y == x) ds) other ∙ absent_below (d + 1) high x ds h.2 (omega (arith, h.0))

-- the numbers of a range that are among rising digits are those digits
pub among_rising : (p : ℕ → Bool) (n a : ℕ) (ds : List ℕ) → Rises a (a + n) ds → ((x : ℕ) → a ≤ x → p x ≡ list_any (λ y. y == x) ds) → filter p (range_with_len a n) ≡ ds
among_rising p zero a [] h is = refl
among_rising p zero a (d ∷ ds) h is = absurd (omega (arith, h.0, h.1))
among_rising p (suc n) a [] h is =
    ap (λ b. cond b (a ∷ filter p (range_with_len (a + 1) n)) (filter p (range_with_len (a + 1) n))) (is a (omega arith))
    ∙ among_rising p n (a + 1) [] tt (λ x le. is x (omega arith))
among_rising p (suc n) a (d ∷ ds) h is =
    let high : a + suc n ≡ a + 1 + n = omega arith in
    elim (cases_lt a d) [
      | inl less ↦
          let later : Rises (a + 1) (a + 1 + n) (d ∷ ds) = subst (λ k. Rises (a + 1) k (d ∷ ds)) high (omega (arith, less), h.1, h.2) in
          let out = is a (omega arith) ∙ absent_below (a + 1) (a + 1 + n) a (d ∷ ds) later (omega arith) in
          ap (λ b. cond b (a ∷ filter p (range_with_len (a + 1) n)) (filter p (range_with_len (a + 1) n))) out
          ∙ among_rising p n (a + 1) (d ∷ ds) later (λ x le. is x (omega arith))
      | inr le ↦
          let same : d ≡ a = omega (arith, h.0, le) in
          let into : p a ≡ true = is a (omega arith) ∙ ap (λ b. b || list_any (λ y. y == a) ds) (eq-eqb d a same) in
          let rest : Rises (a + 1) (a + 1 + n) ds = subst (λ k. Rises k (a + 1 + n) ds) (ap (λ x. x + 1) same) (subst (λ k. Rises (d + 1) k ds) high h.2) in
          let after : (x : ℕ) → a + 1 ≤ x → p x ≡ list_any (λ y. y == x) ds = λ x lt. is x (omega arith) ∙ ap (λ b. b || list_any (λ y. y == x) ds) (false_from_ne_true (d == x) (λ e. omega (arith, eqb-true d x e, same, lt))) in
          ap (λ b. cond b (a ∷ filter p (range_with_len (a + 1) n)) (filter p (range_with_len (a + 1) n))) into
          ∙ ap (λ xs. a ∷ xs) (among_rising p n (a + 1) ds rest after)
          ∙ ap (λ x. x ∷ ds) (sym same)
    ]

-- the digits of a bitmap rise
pub digits_rise : (n a m : ℕ) → Rises a (a + n) (digits_from n a m)
digits_rise zero a m = tt
digits_rise (suc n) a m =
    let high : a + 1 + n ≡ a + suc n = omega arith in
    let later = subst (λ k. Rises (a + 1) k (digits_from n (a + 1) (m / 2))) high (digits_rise n (a + 1) (m / 2)) in
    elim (m % 2 == 1) as (λ b. Rises a (a + suc n) (cond b (a ∷ digits_from n (a + 1) (m / 2)) (digits_from n (a + 1) (m / 2)))) [
      | true ↦ (omega arith, omega arith, later)
      | false ↦ rises_lower (a + 1) a (a + suc n) (digits_from n (a + 1) (m / 2)) (omega arith) later
    ]

pub digits_of_rise : (m : ℕ) → Rises 0 fan_out (digits_of m)
unfolding digits_of
digits_of_rise m = digits_rise fan_out 0 m

-- 2. Rows of children.
module _ {K V : Type 0} (path : K → ℕ) (level : ℕ) where
  -- the words below a child have its digit
  abbrev pub HasDigit : ℕ → Tree K V → Type 0
  HasDigit d c = All (λ e. digit (path e.0) level ≡ d) (entries c)

  -- each child has pairs, and its digit stands beside it
  abbrev pub IsRow : List ℕ → List (Tree K V) → Type 0
  IsRow [] [] = Unit {0}
  IsRow [] (c ∷ cs) = ⊥
  IsRow (d ∷ ds) [] = ⊥
  IsRow (d ∷ ds) (c ∷ cs) = HasDigit d c × (0 < length (entries c)) × IsRow ds cs

  pub row_by_number : (ds : List ℕ) (cs : List (Tree K V)) → length cs ≡ length ds → ((n : ℕ) (c : Tree K V) → n < length cs → c ≡ get_or cs n c → HasDigit (get_or ds n 0) c × (0 < length (entries c))) → IsRow ds cs
  row_by_number [] [] e h = tt
  row_by_number [] (c ∷ cs) e h = absurd (omega (arith, e))
  row_by_number (d ∷ ds) [] e h = absurd (omega (arith, e))
  row_by_number (d ∷ ds) (c ∷ cs) e h =
      let first = h 0 c (omega arith) refl in
      (first.0, first.1, row_by_number ds cs (omega (arith, e)) (λ n u lt is. h (suc n) u (omega arith) is))

  pub row_take : (n : ℕ) (ds : List ℕ) (cs : List (Tree K V)) → IsRow ds cs → IsRow (take n ds) (take n cs)
  row_take zero ds cs h = tt
  row_take (suc n) [] [] h = tt
  row_take (suc n) [] (c ∷ cs) h = absurd h
  row_take (suc n) (d ∷ ds) [] h = absurd h
  row_take (suc n) (d ∷ ds) (c ∷ cs) h = (h.0, h.1, row_take n ds cs h.2)

  pub row_drop : (n : ℕ) (ds : List ℕ) (cs : List (Tree K V)) → IsRow ds cs → IsRow (drop n ds) (drop n cs)
  row_drop zero ds cs h = h
  row_drop (suc n) [] [] h = tt
  row_drop (suc n) [] (c ∷ cs) h = absurd h
  row_drop (suc n) (d ∷ ds) [] h = absurd h
  row_drop (suc n) (d ∷ ds) (c ∷ cs) h = row_drop n ds cs h.2

  pub row_long : (ds : List ℕ) (cs : List (Tree K V)) → IsRow ds cs → length ds ≡ length cs
  row_long [] [] h = refl
  row_long [] (c ∷ cs) h = absurd h
  row_long (d ∷ ds) [] h = absurd h
  row_long (d ∷ ds) (c ∷ cs) h = ap suc (row_long ds cs h.2)

  kept_all : (d : ℕ) (es : List (K × V)) → All (λ e. digit (path e.0) level ≡ d) es → filter (λ e. digit (path e.0) level == d) es ≡ es
  kept_all d [] h = refl
  kept_all d (e ∷ es) h =
      ap (λ b. cond b (e ∷ filter (λ x. digit (path x.0) level == d) es) (filter (λ x. digit (path x.0) level == d) es)) (eq-eqb (digit (path e.0) level) d (All-head (λ x. digit (path x.0) level ≡ d) e es h))
      ∙ ap (λ xs. e ∷ xs) (kept_all d es (All-tail (λ x. digit (path x.0) level ≡ d) e es h))

  kept_none : (d x : ℕ) (es : List (K × V)) → (d == x) ≡ false → All (λ e. digit (path e.0) level ≡ d) es → filter (λ e. digit (path e.0) level == x) es ≡ []
  kept_none d x [] off h = refl
  kept_none d x (e ∷ es) off h =
      ap (λ b. cond b (e ∷ filter (λ y. digit (path y.0) level == x) es) (filter (λ y. digit (path y.0) level == x) es)) (ap (λ n. n == x) (All-head (λ y. digit (path y.0) level ≡ d) e es h) ∙ off)
      ∙ kept_none d x es off (All-tail (λ y. digit (path y.0) level ≡ d) e es h)

  -- a digit is among a row's where a pair has it
  pub row_digit : (x : ℕ) (ds : List ℕ) (cs : List (Tree K V)) → IsRow ds cs → nat_lt 0 (length (filter (λ e. digit (path e.0) level == x) (pairs_of_all cs))) ≡ list_any (λ y. y == x) ds
  row_digit x [] [] h = le-ltb 0 0 (omega arith)
  row_digit x [] (c ∷ cs) h = absurd h
  row_digit x (d ∷ ds) [] h = absurd h
  row_digit x (d ∷ ds) (c ∷ cs) h =
      ap (λ es. nat_lt 0 (length es)) (filter-append (λ e. digit (path e.0) level == x) (entries c) (pairs_of_all cs))
      ∙ by (row_digit x ds cs h.2) (d == x) refl
    where
      rest : List (K × V)
      rest = filter (λ e. digit (path e.0) level == x) (pairs_of_all cs)

      by : nat_lt 0 (length rest) ≡ list_any (λ y. y == x) ds → (b : Bool) → (d == x) ≡ b → nat_lt 0 (length (filter (λ e. digit (path e.0) level == x) (entries c) ++ rest)) ≡ (b || list_any (λ y. y == x) ds)
      by later true e =
          let same : d ≡ x = eqb-true d x e in
          let all : filter (λ y. digit (path y.0) level == x) (entries c) ≡ entries c = kept_all x (entries c) (subst (λ n. All (λ y. digit (path y.0) level ≡ n) (entries c)) same h.0) in
          let long = length-append (filter (λ y. digit (path y.0) level == x) (entries c)) rest in
          lt-ltb 0 (length (filter (λ y. digit (path y.0) level == x) (entries c) ++ rest)) (omega (arith, long, ap length all, h.1))
      by later false e = ap (λ es. nat_lt 0 (length (es ++ rest))) (kept_none d x (entries c) e h.0) ∙ later

-- a branch has as many children as its bitmap has digits
pub children_long : {K V : Type 0} (t : Tree K V) (b : ℕ) → Fits t → ShowsBitmap b t → length (children t) ≡ length (digits_of b)
children_long (bucket stamp es) b fits shown = absurd shown
children_long {K} {V} (branch stamp size bitmap ts) b fits shown = long ts ∙ fits.1 ∙ ap (λ m. length (digits_of m)) (sym shown)
  where
    long : (ts : Trees K V) → length (list_of ts) ≡ count_of ts
    long no_trees = refl
    long (more_trees t ts) = ap suc (long ts)

-- 3. Digits of a bitmap, bit by bit.
pub set_first : (k a m : ℕ) → m % 2 ≡ 1 → get_or (digits_from (suc k) a m) 0 0 ≡ a
set_first k a m e = ap (λ b. get_or (cond b (a ∷ digits_from k (a + 1) (m / 2)) (digits_from k (a + 1) (m / 2))) 0 0) (eq-eqb (m % 2) 1 e)

pub set_next : (k a m : ℕ) → m % 2 ≡ 1 → digits_from (suc k) a m ≡ a ∷ digits_from k (a + 1) (m / 2)
set_next k a m e = ap (λ b. cond b (a ∷ digits_from k (a + 1) (m / 2)) (digits_from k (a + 1) (m / 2))) (eq-eqb (m % 2) 1 e)

pub unset_next : (k a m : ℕ) → (m % 2 ≡ 1 → ⊥) → digits_from (suc k) a m ≡ digits_from k (a + 1) (m / 2)
unset_next k a m e = ap (λ b. cond b (a ∷ digits_from k (a + 1) (m / 2)) (digits_from k (a + 1) (m / 2))) (false_from_ne_true (m % 2 == 1) (λ on. e (eqb-true (m % 2) 1 on)))

pub digits_at_start : (m : ℕ) → digits_of m ≡ digits_from fan_out 0 m
unfolding digits_of
digits_at_start m = refl

-- 4. Pairs of more and more children.
module _ {K V : Type 0} where
  pub between_more : (ts : List (Tree K V)) (low n : ℕ) (u : Tree K V) → low ≤ n → n < length ts → u ≡ get_or ts n u → drop low (take (n + 1) ts) ≡ drop low (take n ts) ++ u ∷ []
  between_more [] low n u le lt e = absurd (omega arith)
  between_more (x ∷ ts) (suc low) zero u le lt e = absurd (omega arith)
  between_more (x ∷ ts) (suc low) (suc n) u le lt e =
      let next : suc n + 1 ≡ suc (n + 1) = omega arith in
      ap (λ k. drop (suc low) (take k (x ∷ ts))) next ∙ between_more ts low n u (omega arith) (omega arith) e
  between_more (x ∷ ts) zero zero u le lt e = ap (λ y. y ∷ []) (sym e)
  between_more (x ∷ ts) zero (suc n) u le lt e =
      let next : suc n + 1 ≡ suc (n + 1) = omega arith in
      ap (λ k. take k (x ∷ ts)) next ∙ ap (λ us. x ∷ us) (between_more ts 0 n u (omega arith) (omega arith) e)

  pub count_more : (ts : List (Tree K V)) (low n : ℕ) (u : Tree K V) → low ≤ n → n < length ts → u ≡ get_or ts n u → length (pairs_of_all (drop low (take (n + 1) ts))) ≡ length (pairs_of_all (drop low (take n ts))) + length (entries u)
  count_more ts low n u le lt e =
      let more = ap (λ us. length (pairs_of_all us)) (between_more ts low n u le lt e) ∙ ap length (flat_map-append entries (drop low (take n ts)) (u ∷ [])) in
      omega (arith, more, length-append (pairs_of_all (drop low (take n ts))) (pairs_of_all (u ∷ [])), length-append (entries u) (pairs_of_all []))

  fewer_taken : (n : ℕ) (ts : List (Tree K V)) → length (pairs_of_all (take n ts)) ≤ length (pairs_of_all ts)
  fewer_taken zero ts = omega arith
  fewer_taken (suc n) [] = omega arith
  fewer_taken (suc n) (t ∷ ts) = omega (arith, fewer_taken n ts, length-append (entries t) (pairs_of_all (take n ts)), length-append (entries t) (pairs_of_all ts))

  fewer_left : (n : ℕ) (ts : List (Tree K V)) → length (pairs_of_all (drop n ts)) ≤ length (pairs_of_all ts)
  fewer_left zero ts = omega arith
  fewer_left (suc n) [] = omega arith
  fewer_left (suc n) (t ∷ ts) = omega (arith, fewer_left n ts, length-append (entries t) (pairs_of_all ts))

  -- some children have at most all pairs
  pub fewer_between : (low high : ℕ) (ts : List (Tree K V)) → length (pairs_of_all (drop low (take high ts))) ≤ length (pairs_of_all ts)
  fewer_between low high ts = omega (arith, fewer_left low (take high ts), fewer_taken high ts)
