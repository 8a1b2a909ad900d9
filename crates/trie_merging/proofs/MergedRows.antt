-- The children of two branches put together, digit by digit.
use Rattle.std.proofs.Common.{◌≡◌, ℕ, zero, suc, ◌+◌, ◌*◌, ◌/◌, ◌<◌, ◌≤◌, ◌==◌, ◌%◌, ◌^◌, ◌⊎◌, inl, inr, Bool, true, false, cond, ◌||◌, max, List, [], ◌∷◌, ◌++◌, length, get_or, Option, Some, None, is_some, IfSome, refl, sym, ap, ◌∙◌, subst, arith, length-append}
use mathlib.Core.Bool.{false≢true}
use Rattle.std.specs.Option.{option_or}
use Rattle.std.specs.declared.cmp.Ordering.{Ordering}
use Rattle.std.specs.declared.cmp.Ordering.TheVariants.{Equal}
use Rattle.std.specs.FinMap.{find}
use Rattle.std.specs.Int.{bit_at}
use Rattle.std.specs.Int.RustNames.{bit_or, count_ones}
use Rattle.std.proofs.lemmas.Bool.Decides.{eqb_tells}
use Rattle.std.proofs.lemmas.List.{append-nil, get_or_default}
use Rattle.std.proofs.lemmas.Nat.{or_lt}
use Rattle.std.proofs.lemmas.Nat.Bits.{bit_at_or, bit_at-suc, bit_at_lowest}
use Rattle.hash_path.specs.Digits.{last_level, digit, digit_bits, fan_out}
use Rattle.trie_shape.specs.Looks.{ShowsBitmap}
use Rattle.trie_merging.specs.Merges.{CanMerge, Merges, StampsPass, AllStampsPass, child_among, child_at, pairs_of}
use Rattle.trie_shape.specs.Outline.{children}
use Rattle.trie_shape.specs.Shape.{Fits, Lacks}
use Rattle.trie_shape.specs.Tree.{Tree, branch, bucket, Trees, no_trees, more_trees, trees, digits_from, digits_of, entries, entries_of_all, HasTwoWords, IsTrie, AreTries}
use Rattle.trie_shape.proofs.Bits.{agree_more, cond_append, length-digits_of, once_each}
use Rattle.trie_merging.proofs.ChildAt.{IsBelow, child_in, child_out, child_known, child_fewer, count_under, count_most, count_next, find_digit, place_in}
use Rattle.trie_shape.proofs.Divides.{trie_fits}
use Rattle.trie_shape.proofs.Ways.{are_tries_long}
use Rattle.trie_shape.proofs.Tries.{or_else, or_none, entries_append, find_append, find_lacking, find_other, join}

-- the set bits among one more of the lowest
digits_suc : (k d m : ℕ) → digits_from (suc k) d m ≡ digits_from k d m ++ cond (bit_at m k == 1) ((d + k) ∷ []) []
digits_suc zero d m =
    let here : d ≡ d + 0 = omega arith in
    λ i. cond (sym (bit_at_lowest m) i == 1) (here i ∷ []) []
digits_suc (suc k) d m =
    let up : d + 1 + k ≡ d + suc k = omega arith in
    let tail : digits_from (suc k) (d + 1) (m / 2) ≡ digits_from k (d + 1) (m / 2) ++ cond (bit_at m (suc k) == 1) ((d + suc k) ∷ []) [] =
    digits_suc k (d + 1) (m / 2) ∙ (λ i. digits_from k (d + 1) (m / 2) ++ cond (sym (bit_at-suc m k) i == 1) (up i ∷ []) []) in
    (λ i. cond (m % 2 == 1) (d ∷ tail i) (tail i)) ∙ cond_append (m % 2 == 1) d (digits_from k (d + 1) (m / 2)) (cond (bit_at m (suc k) == 1) ((d + suc k) ∷ []) [])

digits_next : (k m : ℕ) → digits_from (k + 1) 0 m ≡ digits_from k 0 m ++ cond (bit_at m k == 1) (k ∷ []) []
digits_next k m =
    ap (λ n. digits_from n 0 m) {x = k + 1} {y = suc k} (omega arith) ∙ digits_suc k 0 m ∙ ap (λ n. digits_from k 0 m ++ cond (bit_at m k == 1) (n ∷ []) []) {x = 0 + k} {y = k} (omega arith)

-- all are below
lacks_from : (k d m x : ℕ) → d + k ≤ x → Lacks x (digits_from k d m)
lacks_from zero d m x le = tt
lacks_from (suc k) d m x le =
    let rest = lacks_from k (d + 1) (m / 2) x (omega arith) in
    elim (m % 2 == 1) as (λ b. Lacks x (cond b (d ∷ digits_from k (d + 1) (m / 2)) (digits_from k (d + 1) (m / 2)))) [
      | true ↦ (λ e. omega arith, rest)
      | false ↦ rest
    ]

greater_bit : (x y : ℕ) → x < 2 → y < 2 → (max x y == 1) ≡ ((x == 1) || (y == 1))
greater_bit zero zero a b = refl
greater_bit zero (suc zero) a b = refl
greater_bit (suc zero) zero a b = refl
greater_bit (suc zero) (suc zero) a b = refl
greater_bit (suc (suc x)) y a b = absurd (omega arith)
greater_bit x (suc (suc y)) a b = absurd (omega arith)

-- a bit of both bitmaps together
either_bit : (m n i : ℕ) → (bit_at (bit_or m n) i == 1) ≡ ((bit_at m i == 1) || (bit_at n i == 1))
either_bit m n i = ap (λ b. b == 1) (bit_at_or m n i) ∙ greater_bit (bit_at m i) (bit_at n i) (omega arith) (omega arith)

if_some : {A : Type 0} (P Q : A → Type 0) (o : Option A) → ((x : A) → P x → Q x) → IfSome o P → IfSome o Q
if_some P Q (Some x) f h = f x h
if_some P Q None f h = tt

or_found : {A : Type 0} (a b : Option A) → is_some a ≡ true → is_some (option_or a b) ≡ true
or_found (Some x) b e = refl
or_found None b e = absurd (false≢true e)

one_found : {A : Type 0} (a b : Option A) → is_some (option_or a b) ≡ true → (is_some a ≡ true) ⊎ (is_some b ≡ true)
one_found (Some x) b e = inl refl
one_found None b e = inr e

module _ {K V : Type 0} where
  -- how many pairs of a branch stand below digits under k
  abbrev pub under : ℕ → Tree K V → ℕ
  under k (branch stamp size bitmap ts) = count_under k (digits_of bitmap) ts
  under k (bucket stamp es) = 0

  child_within : (test : ℕ → Bool) (d : ℕ) (ds : List ℕ) (ts : Trees K V) → AllStampsPass test ts → IfSome (child_among ds ts d) (StampsPass test)
  child_within test d [] ts h = tt
  child_within test d (x ∷ xs) no_trees h = tt
  child_within test d (x ∷ xs) (more_trees t ts) h =
      let rest = child_within test d xs ts h.1 in
      elim (x == d) as (λ b. IfSome (cond b (Some t) (child_among xs ts d)) (StampsPass test)) [ true ↦ h.0 | false ↦ rest ]

  all_within : (test : ℕ → Bool) (row : List (Tree K V)) (c : Tree K V) → AllStampsPass test (trees row) → StampsPass test c → AllStampsPass test (trees (row ++ c ∷ []))
  all_within test [] c h here = (here, tt)
  all_within test (t ∷ row) c h here = (h.0, all_within test row c h.1 here)

  -- a branch has a child for each digit of its bitmap
  has_child : (t : Tree K V) (b d : ℕ) → d < fan_out → Fits t → ShowsBitmap b t → is_some (child_at t d) ≡ (bit_at b d == 1)
  has_child t b d below fits shown = of_bit (bit_at b d == 1) refl
    where
      of_bit : (e : Bool) → (bit_at b d == 1) ≡ e → is_some (child_at t d) ≡ (bit_at b d == 1)
      of_bit true has =
          let i = count_ones (b % 2 ^ d) in
          let within = place_in t b d below fits shown has in
          sym (ap is_some (child_in t b d below fits shown has (get_or (children t) i t) (get_or_default (children t) i t (get_or (children t) i t) within))) ∙ sym has
      of_bit false lacks = sym (ap is_some (child_out t b d below shown lacks)) ∙ sym lacks

-- what is said of two subtries is said of equal ones
pub can_same : {K V : Type 0} (R : K → K → Ordering) (path : K → ℕ) (level : ℕ) (x y left right : Option (Tree K V)) → x ≡ left → y ≡ right → CanMerge R path level left right → CanMerge R path level x y
can_same R path level x y left right e f h = subst (λ z. CanMerge R path level z y) (sym e) (subst (CanMerge R path level left) (sym f) h)

pub merges_same : {K V : Type 0} (R : K → K → Ordering) (path : K → ℕ) (level stamp : ℕ) (x y left right new : Option (Tree K V)) → x ≡ left → y ≡ right → Merges R path level stamp x y new → Merges R path level stamp left right new
merges_same R path level stamp x y left right new e f h = subst (λ z. Merges R path level stamp z right new) e (subst (λ z. Merges R path level stamp x z new) f h)

-- the pairs of one more child
pub length_row : {K V : Type 0} (row : List (Tree K V)) (c : Tree K V) → length (entries_of_all (trees (row ++ c ∷ []))) ≡ length (entries_of_all (trees row)) + length (entries c)
length_row [] c = omega (arith, ap length (append-nil (entries c)))
length_row (t ∷ row) c = omega (arith, length_row row c, length-append (entries t) (entries_of_all (trees (row ++ c ∷ []))), length-append (entries t) (entries_of_all (trees row)))

-- the children below k of the digits of a bitmap are those of two branches put together
pub record IsRow {K V : Type 0} (R : K → K → Ordering) (path : K → ℕ) (level stamp bitmap : ℕ) (left right : Tree K V) (k : ℕ) (row : List (Tree K V)) : Type 0 where
  pub ok : AreTries R path level (digits_from k 0 bitmap) (trees row)
  pub finds : (q : K) → digit (path q) level < k → find R q (entries_of_all (trees row)) ≡ option_or (find R q (entries left)) (find R q (entries right))
  pub most : length (entries_of_all (trees row)) ≤ under k left + under k right
  pub stamps : (test : ℕ → Bool) → test stamp ≡ true → StampsPass test left → StampsPass test right → AllStampsPass test (trees row)

module _ {K V : Type 0} (R : K → K → Ordering) (path : K → ℕ) (exact : (x y : K) → R x y ≡ Equal → x ≡ y) (level : ℕ) where
  -- a branch as one of the two
  pub record IsSide (b : ℕ) (t : Tree K V) : Type 0 where
    pub level_in : level ≤ last_level
    pub small : b < 2 ^ fan_out
    pub has : (d : ℕ) → d < fan_out → is_some (child_at t d) ≡ (bit_at b d == 1)
    pub known : (d : ℕ) → IfSome (child_at t d) (IsBelow R path level d)
    pub finds : (q : K) → find R q (entries t) ≡ find R q (pairs_of (child_at t (digit (path q) level)))
    pub fewer : (d : ℕ) → length (pairs_of (child_at t d)) ≤ length (entries t)
    pub next : (k : ℕ) → under (k + 1) t ≡ under k t + length (pairs_of (child_at t k))
    pub most : (k : ℕ) → under k t ≤ length (entries t)
    pub two : 0 < level → HasTwoWords R path (entries t)
    pub within : (test : ℕ → Bool) (d : ℕ) → StampsPass test t → IfSome (child_at t d) (StampsPass test)

  pub side : (b : ℕ) (t : Tree K V) → ShowsBitmap b t → IsTrie R path level t → IsSide b t
  side b (branch stamp size bitmap ts) shown trie = record {
    level_in = trie.0;
    small = let P : ℕ → Type 0 = λ n. n < 2 ^ fan_out in subst P (sym shown) trie.1;
    has = λ d below. has_child (branch stamp size bitmap ts) b d below (trie_fits R path level (branch stamp size bitmap ts) trie) shown;
    known = λ d. child_known R path level d (digits_of bitmap) ts trie.3;
    finds = λ q. find_digit R path level exact q (digits_of bitmap) ts (once_each bitmap) trie.3;
    fewer = λ d. child_fewer (digits_of bitmap) ts d;
    next = λ k. count_next k (digits_of bitmap) ts (once_each bitmap);
    most = λ k. count_most k (digits_of bitmap) ts;
    two = trie.4;
    within = λ test d h. child_within test d (digits_of bitmap) ts h.1;
  }
  side b (bucket stamp es) shown trie = absurd shown

  -- each key below a digit has it
  digit_below : (d : ℕ) (o : Option (Tree K V)) → IfSome o (IsBelow R path level d) → (q : K) → is_some (find R q (pairs_of o)) ≡ true → digit (path q) level ≡ d
  digit_below d (Some t) h q found = h.keys q found
  digit_below d None h q found = absurd (false≢true found)

  -- and is found in the branch
  found_above : (b d : ℕ) (t : Tree K V) → IsSide b t → (q : K) → digit (path q) level ≡ d → find R q (pairs_of (child_at t d)) ≡ find R q (entries t)
  found_above b d t s q here = sym (s.finds q ∙ ap (λ x. find R q (pairs_of (child_at t x))) here)

  module _ (a b : ℕ) (left right : Tree K V) (l : IsSide a left) (r : IsSide b right) (can : CanMerge R path level (Some left) (Some right)) where
    -- the children of a digit can stand at one place
    pub can_below : (d : ℕ) → CanMerge R path (level + 1) (child_at left d) (child_at right d)
    can_below d = record {
      depth = omega (arith, l.level_in);
      left_trie = if_some (IsBelow R path level d) (IsTrie R path (level + 1)) (child_at left d) (λ t h. h.trie) (l.known d);
      right_trie = if_some (IsBelow R path level d) (IsTrie R path (level + 1)) (child_at right d) (λ t h. h.trie) (r.known d);
      agree = λ q p q_in p_in.
          let q_digit = digit_below d (child_at left d) (l.known d) q q_in in
          let p_digit = digit_below d (child_at right d) (r.known d) p p_in in
          let above = can.agree q p (ap is_some (sym (found_above a d left l q q_digit)) ∙ q_in) (ap is_some (sym (found_above b d right r p p_digit)) ∙ p_in) in
          subst (λ n. path q % 2 ^ n ≡ path p % 2 ^ n) {x = digit_bits + digit_bits * level} {y = digit_bits * (level + 1)} (omega arith) (agree_more (path q) (path p) level above (q_digit ∙ sym p_digit));
      room = omega (arith, l.fewer d, r.fewer d, can.room);
    }

    module _ (stamp : ℕ) where
      module _ (k : ℕ) (below : k < fan_out) (row : List (Tree K V)) (h : IsRow R path level stamp (bit_or a b) left right k row) (o : Option (Tree K V)) (m : Merges R path (level + 1) stamp (child_at left k) (child_at right k) o) where
        bit : (bit_at (bit_or a b) k == 1) ≡ is_some o
        bit = either_bit a b k ∙ (λ i. sym (l.has k below) i || sym (r.has k below) i) ∙ sym m.there

        -- what both have at a key of the digit
        here_finds : (q : K) → digit (path q) level ≡ k → find R q (pairs_of o) ≡ option_or (find R q (entries left)) (find R q (entries right))
        here_finds q here = m.finds q ∙ (λ i. option_or (found_above a k left l q here i) (found_above b k right r q here i))

        none_so_far : (q : K) → digit (path q) level ≡ k → find R q (entries_of_all (trees row)) ≡ None
        none_so_far q here = find_lacking R path exact level q (digits_from k 0 (bit_or a b)) row (lacks_from k 0 (bit_or a b) (digit (path q) level) (omega (arith, here))) h.ok

        within_of : (test : ℕ → Bool) → test stamp ≡ true → StampsPass test left → StampsPass test right → IfSome o (StampsPass test)
        within_of test stamped left_in right_in = m.stamps test stamped (l.within test k left_in) (r.within test k right_in)

        -- neither side has a child of the digit
        pub row_kept : o ≡ None → IsRow R path level stamp (bit_or a b) left right (k + 1) row
        row_kept none = record {
          ok = subst (λ ds. AreTries R path level ds (trees row)) (sym (digits_next k (bit_or a b) ∙ ap (λ e. digits_from k 0 (bit_or a b) ++ cond e (k ∷ []) []) (bit ∙ ap is_some none) ∙ append-nil (digits_from k 0 (bit_or a b)))) h.ok;
          finds = λ q lt. elim (eqb_tells (digit (path q) level) k) as (λ _. find R q (entries_of_all (trees row)) ≡ option_or (find R q (entries left)) (find R q (entries right))) [
            | inl e ↦ none_so_far q e.1 ∙ ap (λ x. find R q (pairs_of x)) (sym none) ∙ here_finds q e.1
            | inr e ↦ h.finds q (omega (arith, lt, e.1))
          ];
          most = omega (arith, h.most, l.next k, r.next k);
          stamps = h.stamps;
        }

        -- a side has
        pub row_more : (c : Tree K V) → o ≡ Some c → IsRow R path level stamp (bit_or a b) left right (k + 1) (row ++ c ∷ [])
        row_more c some = record {
          ok = subst (λ ds. AreTries R path level ds (trees (row ++ c ∷ []))) (sym (digits_next k (bit_or a b) ∙ ap (λ e. digits_from k 0 (bit_or a b) ++ cond e (k ∷ []) []) (bit ∙ ap is_some some)))
              (join R path level (digits_from k 0 (bit_or a b)) (k ∷ []) row (c ∷ []) h.ok (keys, trie, tt));
          finds = λ q lt. elim (eqb_tells (digit (path q) level) k) as (λ _. find R q (entries_of_all (trees (row ++ c ∷ []))) ≡ option_or (find R q (entries left)) (find R q (entries right))) [
            | inl e ↦ split q ∙ ap (λ x. or_else x (find R q (entries c))) (none_so_far q e.1) ∙ ap (λ x. find R q (pairs_of x)) (sym some) ∙ here_finds q e.1
            | inr e ↦ split q ∙ ap (or_else (find R q (entries_of_all (trees row)))) (find_other R path exact level k q (entries c) e.1 keys) ∙ or_none (find R q (entries_of_all (trees row))) ∙ h.finds q (omega (arith, lt, e.1))
          ];
          most = omega (arith, h.most, l.next k, r.next k, m.most, ap (λ x. length (pairs_of x)) some, length_row row c);
          stamps = λ test stamped left_in right_in. all_within test row c (h.stamps test stamped left_in right_in) (subst (λ x. IfSome x (StampsPass test)) some (within_of test stamped left_in right_in));
        }
          where
            split : (q : K) → find R q (entries_of_all (trees (row ++ c ∷ []))) ≡ or_else (find R q (entries_of_all (trees row))) (find R q (entries c))
            split q = ap (find R q) (entries_append R path row (c ∷ [])) ∙ find_append R path q (entries_of_all (trees row)) (entries c ++ []) ∙ ap (λ es. or_else (find R q (entries_of_all (trees row))) (find R q es)) (append-nil (entries c))

            keys : (q : K) → is_some (find R q (entries c)) ≡ true → digit (path q) level ≡ k
            keys q found = elim (one_found (find R q (pairs_of (child_at left k))) (find R q (pairs_of (child_at right k))) (ap is_some (sym (m.finds q)) ∙ ap (λ x. is_some (find R q (pairs_of x))) some ∙ found)) as (λ _. digit (path q) level ≡ k) [
              | inl e ↦ digit_below k (child_at left k) (l.known k) q e
              | inr e ↦ digit_below k (child_at right k) (r.known k) q e
            ]

            trie : IsTrie R path (level + 1) c
            trie = subst (λ x. IfSome x (IsTrie R path (level + 1))) some m.trie

      -- there is room for all pairs
      pub room_row : (k : ℕ) (row : List (Tree K V)) → IsRow R path level stamp (bit_or a b) left right k row → length (entries_of_all (trees row)) < 2 ^ 63
      room_row k row h = omega (arith, h.most, l.most k, r.most k, can.room)

      -- when all digits are done, there is a child for each digit of both bitmaps together
      pub row_counted : (row : List (Tree K V)) → IsRow R path level stamp (bit_or a b) left right fan_out row → length row ≡ count_ones (bit_or a b)
      unfolding digits_of
      row_counted row h = are_tries_long R path level (digits_from fan_out 0 (bit_or a b)) row h.ok ∙ length-digits_of (bit_or a b) (or_lt fan_out a b l.small r.small)

      -- and the branch is both together
      pub row_done : (row : List (Tree K V)) → IsRow R path level stamp (bit_or a b) left right fan_out row → (size : ℕ) → size ≡ length (entries_of_all (trees row)) → (new : Tree K V) → new ≡ branch stamp size (bit_or a b) (trees row) → Merges R path level stamp (Some left) (Some right) (Some new)
      unfolding digits_of
      row_done row h size counted new made =
          let finds : (q : K) → find R q (entries new) ≡ option_or (find R q (entries left)) (find R q (entries right)) = λ q. ap (λ t. find R q (entries t)) made ∙ h.finds q (omega arith) in
          let kept : (q : K) → is_some (find R q (entries left)) ≡ true → is_some (find R q (entries_of_all (trees row))) ≡ true = λ q e. ap is_some (h.finds q (omega arith)) ∙ or_found (find R q (entries left)) (find R q (entries right)) e in
          record {
            there = refl;
            trie = subst (IsTrie R path level) (sym made) (
              l.level_in,
              or_lt fan_out a b l.small r.small,
              counted,
              h.ok,
              λ up. let two = l.two up in (two.0, (two.1.0, (kept two.0 two.1.1.0, kept two.1.0 two.1.1.1, two.1.1.2))),
            );
            finds = finds;
            most = omega (arith, h.most, l.most fan_out, r.most fan_out, ap (λ t. length (entries t)) made);
            stamps = λ test stamped left_in right_in. subst (StampsPass test) (sym made) (stamped, h.stamps test stamped left_in right_in);
          }
