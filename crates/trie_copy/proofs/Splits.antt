-- A put of a key of another word than the pairs of a leaf or bucket: a branch above two words.
use Rattle.std.proofs.Common.{◌≡◌, ◌≢◌, ℕ, zero, suc, ◌+◌, ◌*◌, ◌<◌, ◌≤◌, ◌==◌, ◌%◌, ◌^◌, Bool, true, false, cond, List, [], ◌∷◌, ◌++◌, length, Option, Some, is_some, get_or, set, refl, sym, ap, ◌∙◌, subst, inl, inr, arith, nat_eq, length-append}
use mathlib.Core.Bool.{false≢true}
use Rattle.std.specs.Bool.{MatchBool}
use Rattle.std.specs.List.{Contains, insert, starts_with}
use Rattle.std.specs.declared.cmp.Ordering.{Ordering}
use Rattle.std.specs.declared.cmp.Ordering.TheVariants.{Equal}
use Rattle.std.specs.Ordering.{eq_by_cmp, is_eq}
use Rattle.std.specs.Cmp.{IsTotalOrder, tied_itself}
use Rattle.std.specs.FinMap.{find}
use Rattle.std.specs.Int.{bit_at, w32}
use Rattle.std.specs.Int.RustNames.{bit_or, count_ones}
use Rattle.std.proofs.Math.Nat.{mod-eq_of_lt, pow-le-pow_right}
use Rattle.std.proofs.lemmas.Bool.Decides.{leb_tells}
use Rattle.std.proofs.lemmas.List.{append-nil}
use Rattle.std.proofs.lemmas.List.Elements.{Contains-append_cases}
use Rattle.std.proofs.lemmas.Nat.Bits.{bit_at-zero, bit_at_set_same, bit_at_set_other}
use Rattle.hash_path.specs.Digits.{word_bits, last_level, digit, digit_bits, fan_out}
use Rattle.trie_shape.specs.Tree.{Tree, branch, bucket, trees, entries, digits_of, KeysHaveWord, HasTwoWords, IsTrie, AreTries}
use Rattle.trie_shape.specs.Shape.{Nodes, nodes_below, nodes_of_all, IsRestamped, Restamps}
use Rattle.trie_shape.specs.Roots.{word_of}
use Rattle.trie_copy.specs.Writes.{Writes}
use Rattle.trie_shape.proofs.Bits.{digits_around}
use Rattle.trie_shape.proofs.Tries.{at_child, place_within}
use Rattle.trie_copy.proofs.Branches.{Changes, IsNearlyTrie, nearly_replaced, nearly_added, writes_of_two, puts_leaf}
use Rattle.trie_shape.proofs.Empty.{no_digits}
use Rattle.trie_shape.proofs.Finds.{found_first}

-- the bitmap of one digit
abbrev pub one_digit : ℕ → ℕ
one_digit d = 1 * 2 ^ d % 2 ^ 32

front_empty : {A : Type 0} (xs ys : List A) → xs ++ ys ≡ [] → xs ≡ []
front_empty [] ys e = refl
front_empty (x ∷ xs) ys e = cc

bits_of_one : (d : ℕ) → d < fan_out → (i : ℕ) → i ≢ d → bit_at (one_digit d) i ≡ 0
bits_of_one d below i ne = bit_at_set_other w32 0 d below i ne ∙ bit_at-zero i

pub one_digit_other : (d e : ℕ) → d < fan_out → e ≢ d → (bit_at (one_digit d) e == 1) ≡ false
one_digit_other d e below ne = ap (λ n. n == 1) (bits_of_one d below e ne)

pub one_digit_same : (d : ℕ) → d < fan_out → (bit_at (one_digit d) d == 1) ≡ true
one_digit_same d below = ap (λ n. n == 1) (bit_at_set_same w32 0 d below)

pub digits_of_one : (d : ℕ) → d < fan_out → digits_of (one_digit d) ≡ d ∷ []
digits_of_one d below =
    let a = digits_around 0 d below in
    let none : a.before ++ a.after ≡ [] = sym (a.now ∙ ap (λ n. a.before ++ cond (n == 1) (d ∷ a.after) a.after) (bit_at-zero d)) ∙ no_digits in
    let first : a.before ≡ [] = front_empty a.before a.after none in
    let last : a.after ≡ [] = sym (ap (λ xs. xs ++ a.after) first) ∙ none in
    a.changed (one_digit d) (λ i ne. bits_of_one d below i ne ∙ sym (bit_at-zero i))
    ∙ ap (λ n. a.before ++ cond (n == 1) (d ∷ a.after) a.after) (bit_at_set_same w32 0 d below)
    ∙ (λ i. first i ++ d ∷ last i)

-- words that share all digits are one
pub level_within : (v w level : ℕ) → v < 2 ^ word_bits → w < 2 ^ word_bits → v ≢ w → v % 2 ^ (digit_bits * level) ≡ w % 2 ^ (digit_bits * level) → level ≤ last_level
level_within v w level v_small w_small apart agree = elim (leb_tells level last_level) as (λ _. level ≤ last_level) [
  | inl within ↦ within.1
  | inr beyond ↦
      let big : 2 ^ word_bits ≤ 2 ^ (digit_bits * level) = pow-le-pow_right {n = 2} (omega arith) {i = word_bits} {j = digit_bits * level} (omega (arith, beyond.1)) in
      absurd (apart (sym (mod-eq_of_lt (omega (arith, big, v_small))) ∙ agree ∙ mod-eq_of_lt (omega (arith, big, w_small))))
]

-- a node on the word's way tells nothing of the others
restamps_under : (stamp : ℕ) (w p : List ℕ) (before : ℕ) (old new : Nodes) → starts_with nat_eq w p ≡ true → Restamps stamp w ((p, before) ∷ old) new → Restamps stamp w old new
restamps_under stamp w p before old new on h = λ k d lt. of_rule (get_or new k d) (h k d lt)
  where
    of_contained : (n : List ℕ × ℕ) → starts_with nat_eq w n.0 ≡ false → Contains ((p, before) ∷ old) n → Contains old n
    of_contained n off inside = elim (Contains-append_cases ((p, before) ∷ []) old n inside) as (λ _. Contains old n) [
      | inl first ↦ absurd (false≢true (sym off ∙ ap (λ m. starts_with nat_eq w m.0) (sym (alone first)) ∙ on))
      | inr rest ↦ rest
    ]
      where
        alone : Contains ((p, before) ∷ []) n → (p, before) ≡ n
        alone (zero, within, is) = is
        alone (suc i, within, is) = absurd (omega arith)

    of_rule : (n : List ℕ × ℕ) → IsRestamped stamp w ((p, before) ∷ old) n → IsRestamped stamp w old n
    of_rule n r =
        elim (starts_with nat_eq w n.0) as (λ b. starts_with nat_eq w n.0 ≡ b → MatchBool b (n.1 ≡ stamp) (Contains ((p, before) ∷ old) n) → MatchBool b (n.1 ≡ stamp) (Contains old n)) [
          | true ↦ λ _ same. same
          | false ↦ λ off inside. of_contained n off inside
        ] refl r

module _ {K V : Type 0} (R : K → K → Ordering) (path : K → ℕ) (total : IsTotalOrder R) (exact : (x y : K) → R x y ≡ Equal → x ≡ y) (level stamp : ℕ) (k : K) (v : V) (before : ℕ) (es : List (K × V)) (trie : IsTrie R path level (bucket before es)) (w d : ℕ)
    (words : KeysHaveWord R path w es) (apart : w ≢ path k) (within : level ≤ last_level) (there : digit w level ≡ d) (small : d < fan_out) where
  -- the leaf or bucket alone below a branch
  abbrev pub lone : Tree K V
  lone = branch 0 (length es) (one_digit d) (trees (bucket before es ∷ []))

  near_lone : IsNearlyTrie R path level lone
  near_lone = (
    within,
    omega arith,
    ap length (sym (append-nil es)),
    subst (λ ds. AreTries R path level ds (trees (bucket before es ∷ []))) (sym (digits_of_one d small)) ((λ q found. ap (λ x. digit x level) (words q found) ∙ there), (omega arith, trie.1, trie.2, trie.3), tt),
  )

  nodes_lone : (p : List ℕ) → nodes_below (word_of path) p lone ≡ (p, 0) ∷ nodes_below (word_of path) p (bucket before es)
  nodes_lone p = ap (λ ds. (p, 0) ∷ nodes_of_all (word_of path) p ds (trees (bucket before es ∷ []))) (digits_of_one d small) ∙ ap (λ ns. (p, 0) ∷ ns) (anywhere es)
    where
      anywhere : (xs : List (K × V)) → nodes_below (word_of path) (p ++ d ∷ []) (bucket before xs) ++ [] ≡ nodes_below (word_of path) p (bucket before xs)
      anywhere [] = refl
      anywhere (x ∷ xs) = refl

  two_words_after : (new : Tree K V) → ((q : K) → find R q (entries new) ≡ cond (eq_by_cmp R q k) (Some v) (find R q es)) → HasTwoWords R path (entries new)
  two_words_after new finds = of_first es words trie.1 finds
    where
      still : (b : Bool) (o : Option V) → is_some o ≡ true → is_some (cond b (Some v) o) ≡ true
      still true o e = refl
      still false o e = e

      of_first : (xs : List (K × V)) → KeysHaveWord R path w xs → 0 < length xs → ((q : K) → find R q (entries new) ≡ cond (eq_by_cmp R q k) (Some v) (find R q xs)) → HasTwoWords R path (entries new)
      of_first [] have some f = absurd (omega arith)
      of_first (x ∷ xs) have some f =
          let first : is_some (find R x.0 (x ∷ xs)) ≡ true = ap is_some (found_first R total exact x xs) in
          let tie : eq_by_cmp R k k ≡ true = ap is_eq (tied_itself total k) in (
            x.0,
            (
              k,
              (
                ap is_some (f x.0) ∙ still (eq_by_cmp R x.0 k) (find R x.0 (x ∷ xs)) first,
                ap is_some (f k) ∙ ap (λ b. is_some (cond b (Some v) (find R k (x ∷ xs)))) tie,
                λ same. apart (sym (have x.0 first) ∙ same),
              ),
            ),
          )

  -- what is true of it is true of the leaf or bucket
  of_lone : (new : Tree K V) → Changes R path level stamp k (Some v) lone new → Writes R path level stamp k (Some v) (bucket before es) new
  of_lone new c =
      let finds : (q : K) → find R q (entries new) ≡ cond (eq_by_cmp R q k) (Some v) (find R q es) = λ q. c.finds q ∙ ap (λ xs. cond (eq_by_cmp R q k) (Some v) (find R q xs)) (append-nil es) in
      let made = writes_of_two R path total exact level stamp k (Some v) lone new c (λ up. two_words_after new finds) in
      let same : length (es ++ []) ≡ length es = ap length (append-nil es) in
      record {
        trie = made.trie;
        finds = finds;
        least = omega (arith, made.least, same);
        most = omega (arith, made.most, same);
        stamps = λ p deep on.
            restamps_under stamp (word_of path k) p 0 (nodes_below (word_of path) p (bucket before es)) (nodes_below (word_of path) p new) on
            (subst (λ ns. Restamps stamp (word_of path k) ns (nodes_below (word_of path) p new)) (nodes_lone p) (c.stamps p deep on));
      }

  -- the place of a leaf of another digit is before or behind it
  pub place_beside : (e : ℕ) → e < fan_out → e ≢ d → count_ones (one_digit d % 2 ^ e) ≤ 1
  place_beside e below ne = place_within R path level (one_digit d) e below (bucket before es ∷ []) near_lone.3 (one_digit_other d e small ne)

  -- the words differ at the level: a branch of two children
  pub puts_beside : (e : ℕ) → digit (path k) level ≡ e → e < fan_out → e ≢ d → (new : Tree K V) →
      new ≡ branch stamp (length es + 1) (bit_or (one_digit d) (one_digit e)) (trees (insert (bucket before es ∷ []) (count_ones (one_digit d % 2 ^ e)) (bucket stamp ((k, v) ∷ [])))) → Writes R path level stamp k (Some v) (bucket before es) new
  puts_beside e here below ne new made =
      of_lone new (nearly_added R path total exact level stamp k (Some v) e here below 0 (length es) (one_digit d) (bucket before es ∷ []) lone refl near_lone (one_digit_other d e small ne)
      0 (bucket stamp ((k, v) ∷ [])) (puts_leaf R path total exact (level + 1) stamp 0 k v (omega arith)) (length es + 1) new refl made)

  -- they differ further down: a branch of one child
  pub puts_further : digit (path k) level ≡ d → (u : Tree K V) → Writes R path (level + 1) stamp k (Some v) (bucket before es) u → (new : Tree K V) → new ≡ branch stamp (length (entries u)) (one_digit d) (trees (set (bucket before es ∷ []) 0 u)) →
      Writes R path level stamp k (Some v) (bucket before es) new
  puts_further here u writes new made =
      let c = at_child R path level (one_digit d) d small (bucket before es ∷ []) near_lone.3 (one_digit_same d small) in
      let first : 0 ≡ count_ones (one_digit d % 2 ^ d) = omega (arith, c.around.place, c.long, ap length c.whole, length-append c.front (c.child ∷ c.back)) in
      of_lone new (nearly_replaced R path total exact level stamp k (Some v) d here small 0 (length es) (one_digit d) (bucket before es ∷ []) lone refl near_lone (one_digit_same d small)
      (bucket before es) u (ap (λ i. get_or (bucket before es ∷ []) i (bucket before es)) first) writes (length (entries u)) new (omega arith) (made ∙ ap (λ i. branch stamp (length (entries u)) (one_digit d) (trees (set (bucket before es ∷ []) i u))) first))
