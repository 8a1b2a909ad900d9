-- A cut point divides its part in two that have pairs.
use Rattle.std.proofs.Common.{◌≡◌, ℕ, zero, suc, ◌^◌, ◌<◌, ◌≤◌, Bool, true, false, cond, List, [], ◌∷◌, length, get_or, Option, Some, None, refl, sym, ap, ◌∙◌, subst, inl, inr, arith, filter, nat_le, nat_lt}
use Rattle.std.specs.Prelude.{All, Contains, ◌⊎◌, if◌then◌else◌}
use Rattle.std.proofs.lemmas.Bool.{and_parts, and_from, leb-true, ltb-true, le-leb, lt-leb, lt-ltb}
use Rattle.std.proofs.lemmas.List.Elements.{All-map, filter_passes, All-contains}
use Rattle.hash_path.specs.Digits.{word_bits, spelled, position}
use Rattle.hash_path.specs.Laws.{IsWord, DigitOrder, DigitInterval, SharedDigits}
use Rattle.trie_shape.specs.Map.{Map}
use Rattle.iter.specs.declared.interval.Interval.{Interval}
use Rattle.iter.specs.Intervals.{lies_in, part, Tile}
use Rattle.splitter.specs.Cuts.{cut_point, words_of, middle_of}
use Rattle.splitter.specs.Laws.{below, from, Divides, CutsDivide, UncutIsSmall}
use Rattle.splitter.proofs.Middles.{middle_between, no_middle}

pub lies : (i : Interval) (p : ℕ) → lies_in i p ≡ true → (i.lo ≤ p) × (p < i.hi)
lies i p e = let parts = and_parts (nat_le i.lo p) (nat_lt p i.hi) e in (leb-true i.lo p parts.0, ltb-true p i.hi parts.1)

pub within : (i : Interval) (p : ℕ) → i.lo ≤ p → p < i.hi → lies_in i p ≡ true
within i p low high = and_from (nat_le i.lo p) (nat_lt p i.hi) (le-leb i.lo p low) (lt-ltb p i.hi high)

module _ {X : Type 0} where
  -- a test that is stricter keeps what it keeps of all
  pub filter_twice : (p q : X → Bool) → ((x : X) → p x ≡ true → q x ≡ true) → (xs : List X) → filter p (filter q xs) ≡ filter p xs
  filter_twice p q weaker [] = refl
  filter_twice p q weaker (x ∷ xs) =
      elim (q x) as (λ b. q x ≡ b → filter p (cond b (x ∷ filter q xs) (filter q xs)) ≡ cond (p x) (x ∷ filter p xs) (filter p xs)) [
        | true ↦ λ e i. cond (p x) (x ∷ filter_twice p q weaker xs i) (filter_twice p q weaker xs i)
        | false ↦ λ e. filter_twice p q weaker xs ∙ ap (λ b. cond b (x ∷ filter p xs) (filter p xs)) (sym (not_true (p x) (λ yes. let no : false ≡ true = sym e ∙ weaker x yes in cc)))
      ] refl
    where
      not_true : (b : Bool) → (b ≡ true → false ≡ true) → b ≡ false
      not_true true h = sym (h refl)
      not_true false h = refl

  -- one that passes is kept
  pub some_kept : (p : X → Bool) (xs : List X) (k : ℕ) (d : X) → k < length xs → p (get_or xs k d) ≡ true → 0 < length (filter p xs)
  some_kept p [] k d lt e = absurd (omega arith)
  some_kept p (x ∷ xs) zero d lt e = subst (λ b. 0 < length (cond b (x ∷ filter p xs) (filter p xs))) (sym e) (omega arith)
  some_kept p (x ∷ xs) (suc k) d lt e =
      let later = some_kept p xs k d (omega arith) e in
      elim (p x) as (λ b. 0 < length (cond b (x ∷ filter p xs) (filter p xs))) [ true ↦ omega arith | false ↦ later ]

pub an_element : {X : Type 0} (xs : List X) → 0 < length xs → X
an_element [] h = absurd (omega arith)
an_element (x ∷ xs) h = x

module _ {K V : Type 0} (path : K → ℕ) where
  pub get_word : (m : Map K V) (k : ℕ) (w : ℕ) (e : K × V) → k < length m → get_or (words_of path m) k w ≡ path (get_or m k e).0
  get_word [] k w e lt = absurd (omega arith)
  get_word (x ∷ m) zero w e lt = refl
  get_word (x ∷ m) (suc k) w e lt = get_word m k w e (omega arith)

  pub words_long : (m : Map K V) → length (words_of path m) ≡ length m
  words_long [] = refl
  words_long (x ∷ m) = ap suc (words_long m)

  -- a word of a part has its pair in each part that has its position
  pub has_pair : (m : Map K V) (i j : Interval) (w : ℕ) → Contains (words_of path (part path m i)) w → ((p : ℕ) → lies_in j p ≡ true → lies_in i p ≡ true) → lies_in j (position w) ≡ true → 0 < length (part path m j)
  has_pair m i j w there inside lies_there =
      let all = part path m i in
      let short : there.0 < length all = omega (arith, there.1, words_long all) in
      let e : K × V = an_element all (omega arith) in
      let word : path (get_or all there.0 e).0 ≡ w = sym (get_word all there.0 w e short) ∙ there.2 in
      let kept = some_kept (λ x. lies_in j (position (path x.0))) all there.0 e short (ap (λ v. lies_in j (position v)) word ∙ lies_there) in
      subst (λ xs. 0 < length xs) (filter_twice (λ x. lies_in j (position (path x.0))) (λ x. lies_in i (position (path x.0))) (λ x h. inside (position (path x.0)) h) m) kept

  pub word_lies : (m : Map K V) (i : Interval) (w : ℕ) → Contains (words_of path (part path m i)) w → lies_in i (position w) ≡ true
  word_lies m i w there =
      All-contains (λ v. lies_in i (position v) ≡ true) (words_of path (part path m i)) w
      (All-map (λ v. lies_in i (position v) ≡ true) (λ e. path e.0) (part path m i) (filter_passes (λ e. lies_in i (position (path e.0))) m))
      there

  module _ (order : DigitOrder) (interval : DigitInterval) (shared : SharedDigits) (small : (k : K) → path k < 2 ^ word_bits)
      (cut_tiles : (i : Interval) (mid : ℕ) → i.lo ≤ mid → mid ≤ i.hi → Tile (below i mid ∷ from i mid ∷ []) i)
    where
      pub all_words : (m : Map K V) → All IsWord (words_of path m)
      all_words m = All-map IsWord (λ e. path e.0) m (λ k d h. small (get_or m k d).0)

      pub divides : (m : Map K V) (i : Interval) (mid : ℕ) → middle_of (words_of path (part path m i)) ≡ Some mid → Divides path m i mid
      divides m i mid e =
          let words = words_of path (part path m i) in
          let b = middle_between order interval shared words (all_words (part path m i)) mid e in
          let low = lies i (position b.lower) (word_lies m i b.lower b.lower_there) in
          let high = lies i (position b.upper) (word_lies m i b.upper b.upper_there) in
          record {
            low = omega (arith, low.0, b.below);
            high = omega (arith, high.1, b.from);
            tile = cut_tiles i mid (omega (arith, low.0, b.below)) (omega (arith, high.1, b.from));
            lower = has_pair m i (below i mid) b.lower b.lower_there (λ p h. let l = lies (below i mid) p h in within i p l.0 (omega (arith, l.1, high.1, b.from))) (within (below i mid) (position b.lower) low.0 b.below);
            upper = has_pair m i (from i mid) b.upper b.upper_there (λ p h. let l = lies (from i mid) p h in within i p (omega (arith, l.0, low.0, b.below)) l.1) (within (from i mid) (position b.upper) b.from high.1);
          }

      pub cuts_divide : CutsDivide V path
      cuts_divide m i grain mid e =
          elim (nat_le (length (part path m i)) grain) as (λ b. (if b then None else middle_of (words_of path (part path m i))) ≡ Some mid → Divides path m i mid) [
            | true ↦ λ f. cc
            | false ↦ λ f. divides m i mid f
          ] e

      pub uncut_is_small : UncutIsSmall V path
      uncut_is_small m i grain e =
          let words = words_of path (part path m i) in
          elim (nat_le (length (part path m i)) grain) as (λ b. nat_le (length (part path m i)) grain ≡ b → (if b then None else middle_of words) ≡ None → (length (part path m i) ≤ grain) ⊎ ((u v : ℕ) → Contains words u → Contains words v → spelled u ≡ spelled v)) [
            | true ↦ λ h f. inl (leb-true (length (part path m i)) grain h)
            | false ↦ λ h f. inr (no_middle order interval shared words (all_words (part path m i)) f)
          ] refl e

-- where there are more than grain pairs the middle of their words is the cut point
pub cut_large : {K V : Type 0} (path : K → ℕ) (m : Map K V) (i : Interval) (grain : ℕ) (o : Option ℕ) → grain < length (part path m i) → middle_of (words_of path (part path m i)) ≡ o → cut_point path m i grain ≡ o
cut_large path m i grain o lt e = ap (λ b. if b then None else middle_of (words_of path (part path m i))) (lt-leb (length (part path m i)) grain lt) ∙ e
