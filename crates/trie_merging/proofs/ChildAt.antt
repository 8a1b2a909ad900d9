-- The child of a digit, and the pairs below it.
use Rattle.std.proofs.Common.{◌≡◌, ℕ, ◌+◌, ◌<◌, ◌≤◌, ◌≢◌, ◌==◌, ◌%◌, ◌^◌, Bool, true, false, cond, List, [], ◌∷◌, ◌++◌, length, get_or, nat_lt, Option, Some, None, refl, sym, ap, ◌∙◌, subst, arith, length-append, IfSome, inl, inr}
use Rattle.std.proofs.lemmas.Bool.{eqb-true, eq-eqb, false_from_ne_true}
use Rattle.std.proofs.lemmas.Bool.Decides.{eqb_tells, nat_tests}
use Rattle.std.specs.declared.cmp.Ordering.{Ordering}
use Rattle.std.specs.declared.cmp.Ordering.TheVariants.{Equal}
use Rattle.std.specs.FinMap.{find}
use Rattle.std.specs.Int.{bit_at}
use Rattle.std.specs.Int.RustNames.{count_ones}
use Rattle.hash_path.specs.Digits.{digit, fan_out}
use Rattle.trie_shape.specs.Looks.{ShowsBitmap}
use Rattle.trie_merging.specs.Merges.{child_among, child_at, pairs_of}
use Rattle.trie_shape.specs.Outline.{children, list_of}
use Rattle.trie_shape.specs.Shape.{Fits, Lacks}
use Rattle.trie_shape.specs.Tree.{Tree, branch, bucket, Trees, no_trees, more_trees, digits_of, entries, entries_of_all, KeysHaveDigit, IsTrie, AreTries}
use Rattle.trie_shape.proofs.Apart.{find_lacking_all}
use Rattle.trie_shape.proofs.Bits.{digits_around, IsOnceEach, length-digits_of}
use Rattle.trie_shape.proofs.Children.{length-children}
use Rattle.trie_shape.proofs.Tries.{or_else, or_none, find_append, find_other}

other_digit : (x d : ℕ) → x ≢ d → (x == d) ≡ false
other_digit x d ne = false_from_ne_true (x == d) (λ e. ne (eqb-true x d e))

under_other : (x k n : ℕ) → x ≢ k → cond (nat_lt x (k + 1)) n 0 ≡ cond (nat_lt x k) n 0
under_other x k n ne = grind (arith, nat_tests)

under_same : (k n : ℕ) → cond (nat_lt k (k + 1)) n 0 ≡ n
under_same k n = grind (arith, nat_tests)

under_none : (k n : ℕ) → cond (nat_lt k k) n 0 ≡ 0
under_none k n = grind (arith, nat_tests)

module _ {K V : Type 0} where
  -- no child has a digit that the list lacks
  pub child_lacking : (d : ℕ) (ds : List ℕ) (ts : Trees K V) → Lacks d ds → child_among ds ts d ≡ None
  child_lacking d [] ts l = refl
  child_lacking d (x ∷ xs) no_trees l = refl
  child_lacking d (x ∷ xs) (more_trees t ts) l = ap (λ b. cond b (Some t) (child_among xs ts d)) (other_digit x d l.0) ∙ child_lacking d xs ts l.1

  -- the child of a digit stands behind those of the digits before it
  child_behind : (d : ℕ) (before after : List ℕ) (ts : Trees K V) (c : Tree K V) → Lacks d before → length before < length (list_of ts) → c ≡ get_or (list_of ts) (length before) c → child_among (before ++ d ∷ after) ts d ≡ Some c
  child_behind d [] after no_trees c l lt is = absurd (omega arith)
  child_behind d [] after (more_trees t ts) c l lt is = ap (λ b. cond b (Some t) (child_among after ts d)) (eq-eqb d d refl) ∙ ap (λ x. Some x) (sym is)
  child_behind d (b ∷ bs) after no_trees c l lt is = absurd (omega arith)
  child_behind d (b ∷ bs) after (more_trees t ts) c l lt is =
      ap (λ e. cond e (Some t) (child_among (bs ++ d ∷ after) ts d)) (other_digit b d l.0) ∙ child_behind d bs after ts c l.1 (omega arith) is

  -- the place of a digit that the bitmap has is a child's
  pub place_in : (t : Tree K V) (b d : ℕ) → d < fan_out → Fits t → ShowsBitmap b t → (bit_at b d == 1) ≡ true → count_ones (b % 2 ^ d) < length (children t)
  place_in t b d below fits shown has =
      let a = digits_around b d below in
      let whole : digits_of b ≡ a.before ++ d ∷ a.after = a.now ∙ ap (λ e. a.before ++ cond e (d ∷ a.after) a.after) has in
      omega (arith, a.place, length-children t b fits shown, length-digits_of b (small t fits shown), ap length whole, length-append a.before (d ∷ a.after))
    where
      small : (u : Tree K V) → Fits u → ShowsBitmap b u → b < 2 ^ fan_out
      small (branch stamp size bitmap ts) f s = let P : ℕ → Type 0 = λ n. n < 2 ^ fan_out in subst P (sym s) f.0
      small (bucket stamp es) f s = absurd s

  -- the child there has the digit
  pub child_in : (t : Tree K V) (b d : ℕ) → d < fan_out → Fits t → ShowsBitmap b t → (bit_at b d == 1) ≡ true → (c : Tree K V) → c ≡ get_or (children t) (count_ones (b % 2 ^ d)) c → Some c ≡ child_at t d
  child_in (branch stamp size bitmap ts) b d below fits shown has c is =
      let a = digits_around b d below in
      let whole : digits_of b ≡ a.before ++ d ∷ a.after = a.now ∙ ap (λ e. a.before ++ cond e (d ∷ a.after) a.after) has in
      let within = place_in (branch stamp size bitmap ts) b d below fits shown has in
      let found = child_behind d a.before a.after ts c a.lacks_before (omega (arith, within, a.place)) (is ∙ ap (λ n. get_or (list_of ts) n c) (sym a.place)) in
      sym (ap (λ ds. child_among ds ts d) (ap digits_of (sym shown) ∙ whole) ∙ found)
  child_in (bucket stamp es) b d below fits shown has c is = absurd shown

  -- no child has a digit that the bitmap lacks
  pub child_out : (t : Tree K V) (b d : ℕ) → d < fan_out → ShowsBitmap b t → (bit_at b d == 1) ≡ false → None ≡ child_at t d
  child_out (branch stamp size bitmap ts) b d below shown lacks =
      let a = digits_around b d below in
      let whole : digits_of b ≡ a.before ++ a.after = a.now ∙ ap (λ e. a.before ++ cond e (d ∷ a.after) a.after) lacks in
      sym (ap (λ ds. child_among ds ts d) (ap digits_of (sym shown) ∙ whole) ∙ child_lacking d (a.before ++ a.after) ts (both a.before a.after a.lacks_before a.lacks_after))
    where
      both : (xs ys : List ℕ) → Lacks d xs → Lacks d ys → Lacks d (xs ++ ys)
      both [] ys l m = m
      both (x ∷ xs) ys l m = (l.0, both xs ys l.1 m)
  child_out (bucket stamp es) b d below shown lacks = absurd shown

  fewer_more : (b : Bool) (n m : ℕ) (t : Tree K V) (o : Option (Tree K V)) → length (entries t) ≡ n → length (pairs_of o) ≤ m → length (pairs_of (cond b (Some t) o)) ≤ n + m
  fewer_more true n m t o e h = omega arith
  fewer_more false n m t o e h = omega arith

  -- a child has no more pairs than all
  pub child_fewer : (ds : List ℕ) (ts : Trees K V) (d : ℕ) → length (pairs_of (child_among ds ts d)) ≤ length (entries_of_all ts)
  child_fewer [] ts d = omega arith
  child_fewer (x ∷ xs) no_trees d = omega arith
  child_fewer (x ∷ xs) (more_trees t ts) d =
      omega (arith, fewer_more (x == d) (length (entries t)) (length (entries_of_all ts)) t (child_among xs ts d) refl (child_fewer xs ts d), length-append (entries t) (entries_of_all ts))

  -- how many pairs stand below digits under k
  abbrev pub count_under : ℕ → List ℕ → Trees K V → ℕ
  count_under k [] ts = 0
  count_under k (x ∷ xs) no_trees = 0
  count_under k (x ∷ xs) (more_trees t ts) = cond (nat_lt x k) (length (entries t)) 0 + count_under k xs ts

  pub count_most : (k : ℕ) (ds : List ℕ) (ts : Trees K V) → count_under k ds ts ≤ length (entries_of_all ts)
  count_most k [] ts = omega arith
  count_most k (x ∷ xs) no_trees = omega arith
  count_most k (x ∷ xs) (more_trees t ts) = omega (arith, some (nat_lt x k) (length (entries t)), count_most k xs ts, length-append (entries t) (entries_of_all ts))
    where
      some : (b : Bool) (n : ℕ) → cond b n 0 ≤ n
      some true n = omega arith
      some false n = omega arith

  count_lacking : (k : ℕ) (ds : List ℕ) (ts : Trees K V) → Lacks k ds → count_under (k + 1) ds ts ≡ count_under k ds ts
  count_lacking k [] ts l = refl
  count_lacking k (x ∷ xs) no_trees l = refl
  count_lacking k (x ∷ xs) (more_trees t ts) l = (λ i. under_other x k (length (entries t)) l.0 i + count_lacking k xs ts l.1 i)

  -- one digit more
  pub count_next : (k : ℕ) (ds : List ℕ) (ts : Trees K V) → IsOnceEach ds → count_under (k + 1) ds ts ≡ count_under k ds ts + length (pairs_of (child_among ds ts k))
  count_next k [] ts once = omega arith
  count_next k (x ∷ xs) no_trees once = omega arith
  count_next k (x ∷ xs) (more_trees t ts) once = elim (eqb_tells x k) as (λ _. count_under (k + 1) (x ∷ xs) (more_trees t ts) ≡ count_under k (x ∷ xs) (more_trees t ts) + length (pairs_of (child_among (x ∷ xs) (more_trees t ts) k))) [
    | inl e ↦
        let same : x ≡ k = e.1 in
        let lacks = subst (λ y. Lacks y xs) same once.0 in
        let here : length (pairs_of (cond (x == k) (Some t) (child_among xs ts k))) ≡ length (entries t) = ap (λ b. length (pairs_of (cond b (Some t) (child_among xs ts k)))) (eq-eqb x k same) in
        let now : cond (nat_lt x (k + 1)) (length (entries t)) 0 ≡ length (entries t) = ap (λ y. cond (nat_lt y (k + 1)) (length (entries t)) 0) same ∙ under_same k (length (entries t)) in
        let before : cond (nat_lt x k) (length (entries t)) 0 ≡ 0 = ap (λ y. cond (nat_lt y k) (length (entries t)) 0) same ∙ under_none k (length (entries t)) in
        omega (arith, here, now, before, count_lacking k xs ts lacks)
    | inr e ↦
        let here : length (pairs_of (cond (x == k) (Some t) (child_among xs ts k))) ≡ length (pairs_of (child_among xs ts k)) = ap (λ b. length (pairs_of (cond b (Some t) (child_among xs ts k)))) (other_digit x k e.1) in
        omega (arith, here, under_other x k (length (entries t)) e.1, count_next k xs ts once.1)
  ]

module _ {K V : Type 0} (R : K → K → Ordering) (path : K → ℕ) (level : ℕ) where
  -- what is known of the child of a digit
  pub record IsBelow (d : ℕ) (t : Tree K V) : Type 0 where
    pub keys : KeysHaveDigit R path level d (entries t)
    pub trie : IsTrie R path (level + 1) t

  pub child_known : (d : ℕ) (ds : List ℕ) (ts : Trees K V) → AreTries R path level ds ts → IfSome (child_among ds ts d) (IsBelow d)
  child_known d [] ts h = tt
  child_known d (x ∷ xs) no_trees h = absurd h
  child_known d (x ∷ xs) (more_trees t ts) h = elim (eqb_tells x d) as (λ _. IfSome (child_among (x ∷ xs) (more_trees t ts) d) (IsBelow d)) [
    | inl e ↦ subst (λ b. IfSome (cond b (Some t) (child_among xs ts d)) (IsBelow d)) (sym (eq-eqb x d e.1)) (record { keys = subst (λ y. KeysHaveDigit R path level y (entries t)) e.1 h.0; trie = h.1 })
    | inr e ↦ subst (λ b. IfSome (cond b (Some t) (child_among xs ts d)) (IsBelow d)) (sym (other_digit x d e.1)) (child_known d xs ts h.2)
  ]

  module _ (exact : (x y : K) → R x y ≡ Equal → x ≡ y) where
    -- a key is sought below the child of its digit
    pub find_digit : (q : K) (ds : List ℕ) (ts : Trees K V) → IsOnceEach ds → AreTries R path level ds ts → find R q (entries_of_all ts) ≡ find R q (pairs_of (child_among ds ts (digit (path q) level)))
    find_digit q [] no_trees once h = refl
    find_digit q [] (more_trees t ts) once h = absurd h
    find_digit q (x ∷ xs) no_trees once h = absurd h
    find_digit q (x ∷ xs) (more_trees t ts) once h =
        let d = digit (path q) level in
        let split = find_append R path q (entries t) (entries_of_all ts) in
        elim (eqb_tells x d) as (λ _. find R q (entries_of_all (more_trees t ts)) ≡ find R q (pairs_of (child_among (x ∷ xs) (more_trees t ts) d))) [
          | inl e ↦
              split
              ∙ ap (or_else (find R q (entries t))) (find_lacking_all R path exact level q xs ts (subst (λ y. Lacks y xs) e.1 once.0) h.2)
              ∙ or_none (find R q (entries t))
              ∙ ap (λ b. find R q (pairs_of (cond b (Some t) (child_among xs ts d)))) (sym (eq-eqb x d e.1))
          | inr e ↦
              split
              ∙ ap (λ o. or_else o (find R q (entries_of_all ts))) (find_other R path exact level x q (entries t) (λ same. e.1 (sym same)) h.0)
              ∙ find_digit q xs ts once.1 h.2
              ∙ ap (λ b. find R q (pairs_of (cond b (Some t) (child_among xs ts d)))) (sym (other_digit x d e.1))
        ]
