-- Parts of a map by intervals.
use Rattle.std.proofs.Common.{◌≡◌, ℕ, ◌+◌, ◌^◌, ◌<◌, ◌≤◌, Bool, true, false, ◌&&◌, ◌||◌, cond, nat_le, nat_lt, List, [], ◌∷◌, ◌++◌, length, Option, Some, None, is_some, refl, sym, ap, ◌∙◌, arith, filter, T}
use Rattle.std.specs.List.{list_any}
use Rattle.std.specs.declared.cmp.Ordering.{Ordering}
use Rattle.std.specs.declared.cmp.Ordering.TheVariants.{Equal}
use Rattle.std.specs.FinMap.{is_sorted}
use Rattle.std.specs.FinMap.Entries.{is_sorted-where_key, find-where_key, same_entries}
use Rattle.std.specs.Option.{option_or}
use Rattle.std.specs.Cmp.{IsTotalOrder}
use Rattle.std.proofs.lemmas.Float.{T_from_true}
use Rattle.std.proofs.lemmas.Bool.{and_from, le-leb, lt-ltb}
use Rattle.std.proofs.lemmas.Bool.Decides.{nat_tests}
use Rattle.std.proofs.lemmas.List.Folds.{list_any-append}
use Rattle.std.proofs.lemmas.List.Elements.{filter_agree}
use Rattle.hash_path.specs.Digits.{position, word_bits}
use Rattle.hash_path.specs.Laws.{PositionIsBelow}
use Rattle.trie_shape.specs.Map.{Map, IsMap, ShareNoKey, union, value_at}
use Rattle.iter.specs.declared.interval.Interval.{Interval}
use Rattle.iter.specs.Intervals.{whole, lies_in, cover, AreApart, Tile, part, parts}
use Rattle.iter.proofs.Tiling.{once_cut, cover_cons, cover_append}

pub true_of : (b : Bool) → T b → b ≡ true
true_of true h = refl
true_of false h = absurd h

-- whether some interval has the position
abbrev pub covers : List Interval → ℕ → Bool
covers is p = list_any (λ i. lies_in i p) is

first_or : (b : Bool) (n : ℕ) (c : Bool) → c ≡ nat_lt 0 n → (b || c) ≡ nat_lt 0 (cond b 1 0 + n)
first_or true n c e = grind (arith, nat_tests)
first_or false n c e = grind (arith, nat_tests)

-- some interval has it where the count is not 0
pub covers_is : (is : List Interval) (p : ℕ) → covers is p ≡ nat_lt 0 (cover is p)
covers_is [] p = refl
covers_is (i ∷ is) p = first_or (lies_in i p) (cover is p) (covers is p) (covers_is is p) ∙ ap (nat_lt 0) (sym (cover_cons i is p))

all_pass : {X : Type 0} (t : X → Bool) → ((x : X) → t x ≡ true) → (xs : List X) → filter t xs ≡ xs
all_pass t h [] = refl
all_pass t h (x ∷ xs) = ap (λ b. cond b (x ∷ filter t xs) (filter t xs)) (h x) ∙ ap (λ ys. x ∷ ys) (all_pass t h xs)

module _ {K V : Type 0} (path : K → ℕ) where
  -- a part is the part of one interval
  pub part_is_parts : (m : Map K V) (i : Interval) → part path m i ≡ parts path m (i ∷ [])
  part_is_parts m i = filter_agree (λ e. lies_in i (position (path e.0))) (λ e. covers (i ∷ []) (position (path e.0))) (λ e. or_false (lies_in i (position (path e.0)))) m
    where
      or_false : (b : Bool) → b ≡ (b || false)
      or_false true = refl
      or_false false = refl

  -- lists of intervals with one cover have one part
  pub parts_by_cover : (m : Map K V) (is js : List Interval) → ((p : ℕ) → cover is p ≡ cover js p) → parts path m is ≡ parts path m js
  parts_by_cover m is js same =
      filter_agree (λ e. covers is (position (path e.0))) (λ e. covers js (position (path e.0)))
      (λ e. covers_is is (position (path e.0)) ∙ ap (nat_lt 0) (same (position (path e.0))) ∙ sym (covers_is js (position (path e.0)))) m

  -- the parts of intervals that tile all positions are the map
  pub tiles_all : PositionIsBelow → ((k : K) → path k < 2 ^ word_bits) → (m : Map K V) (is : List Interval) → Tile is whole → parts path m is ≡ m
  tiles_all below small m is tile = all_pass (λ e. covers is (position (path e.0))) (λ e. covered e.0) m
    where
      covered : (k : K) → covers is (position (path k)) ≡ true
      covered k =
          let p : ℕ = position (path k) in
          let less : p < 2 ^ word_bits = below (path k) (small k) in
          let there : lies_in whole p ≡ true = and_from (nat_le 0 p) (nat_lt p (2 ^ word_bits)) (le-leb 0 p (omega arith)) (lt-ltb p (2 ^ word_bits) less) in
          covers_is is p ∙ ap (nat_lt 0) (tile p ∙ ap (λ b. cond b 1 0) there)

  module _ (R : K → K → Ordering) (exact : (x y : K) → R x y ≡ Equal → x ≡ y) where
    find_covered : (m : Map K V) (is : List Interval) (k : K) → value_at R (parts path m is) k ≡ cond (covers is (position (path k))) (value_at R m k) None
    find_covered m is k = find-where_key R (λ q. covers is (position (path q))) k (λ x e. ap (λ q. covers is (position (path q))) (sym (exact k x e))) m

    -- what a part has at a key
    pub find_parts : (m : Map K V) (is : List Interval) (k : K) → value_at R (parts path m is) k ≡ cond (nat_lt 0 (cover is (position (path k)))) (value_at R m k) None
    find_parts m is k = find_covered m is k ∙ ap (λ b. cond b (value_at R m k) None) (covers_is is (position (path k)))

    pub parts_map : (m : Map K V) (is : List Interval) → T (is_sorted R m) → T (is_sorted R (parts path m is))
    parts_map m is sorted = is_sorted-where_key R (λ q. covers is (position (path q))) m sorted

    -- parts of intervals that are apart share no key
    pub parts_apart : (m : Map K V) (is js : List Interval) → AreApart (is ++ js) → ShareNoKey R (parts path m is) (parts path m js)
    parts_apart m is js apart k there =
        let p : ℕ = position (path k) in
        find_covered m js k
        ∙ either (covers is p) (covers js p) (value_at R m k)
        (one (covers is p) (covers js p) (cover is p) (cover js p) (covers_is is p) (covers_is js p) (omega (arith, apart p, cover_append is js p)))
        (ap is_some (sym (find_covered m is k)) ∙ there)
      where
        one : (a b : Bool) (x y : ℕ) → a ≡ nat_lt 0 x → b ≡ nat_lt 0 y → x + y ≤ 1 → (a && b) ≡ false
        one a b x y e f h = grind (arith, nat_tests)

        either : (a b : Bool) (o : Option V) → (a && b) ≡ false → is_some (cond a o None) ≡ true → cond b o None ≡ None
        either true true o h e = cc
        either true false o h e = refl
        either false b o h e = cc

    -- the parts of two lists of intervals together have what the one has, or else the other
    find_both : (m : Map K V) (is js : List Interval) (k : K) → value_at R (parts path m (is ++ js)) k ≡ option_or (value_at R (parts path m is) k) (value_at R (parts path m js) k)
    find_both m is js k =
        let p : ℕ = position (path k) in
        find_covered m (is ++ js) k
        ∙ ap (λ b. cond b (value_at R m k) None) (list_any-append (λ i. lies_in i p) is js)
        ∙ joined (covers is p) (covers js p) (value_at R m k)
        ∙ sym (λ n. option_or (find_covered m is k n) (find_covered m js k n))
      where
        joined : (a b : Bool) (o : Option V) → cond (a || b) o None ≡ option_or (cond a o None) (cond b o None)
        joined true b (Some v) = refl
        joined true true None = refl
        joined true false None = refl
        joined false b o = refl

    -- and are their union
    pub parts_union : ((m n : Map K V) (q : K) → value_at R (union R m n) q ≡ option_or (value_at R m q) (value_at R n q))
        → ((m n : Map K V) → IsMap R n → IsMap R (union R m n)) → IsTotalOrder R
        → (m : Map K V) (is js : List Interval) → T (is_sorted R m) → parts path m (is ++ js) ≡ union R (parts path m is) (parts path m js)
    parts_union value map total m is js sorted =
        let left = parts path m is in
        let right = parts path m js in
        same_entries R total exact (parts path m (is ++ js)) (union R left right) (parts_map m (is ++ js) sorted)
        (T_from_true (is_sorted R (union R left right)) (map left right (true_of (is_sorted R right) (parts_map m js sorted))))
        (λ k. find_both m is js k ∙ sym (value left right k))

kept_or : {A : Type 0} (b : Bool) (x : A) (xs : List A) → length (cond b (x ∷ xs) xs) ≡ cond b 1 0 + length xs
kept_or true x xs = omega arith
kept_or false x xs = omega arith

module _ {K V : Type 0} (path : K → ℕ) where
  -- the pairs of an interval are those below a position within it and those from there on
  pub length_cut : (i : Interval) (mid : ℕ) → i.lo ≤ mid → mid ≤ i.hi → (m : Map K V) → length (part path m (record { lo = i.lo; hi = mid })) + length (part path m (record { lo = mid; hi = i.hi })) ≡ length (part path m i)
  length_cut i mid low high [] = refl
  length_cut i mid low high (e ∷ m) =
      let p : ℕ = position (path e.0) in
      omega (
        arith,
        length_cut i mid low high m,
        once_cut i mid p low high,
        kept_or (lies_in (record { lo = i.lo; hi = mid }) p) e (part path m (record { lo = i.lo; hi = mid })),
        kept_or (lies_in (record { lo = mid; hi = i.hi }) p) e (part path m (record { lo = mid; hi = i.hi })),
        kept_or (lies_in i p) e (part path m i),
      )

  pub count_below_and_in : (i : Interval) (m : Map K V) → i.lo ≤ i.hi → length (part path m (record { lo = 0; hi = i.lo })) + length (part path m i) ≡ length (part path m (record { lo = 0; hi = i.hi }))
  count_below_and_in i m order = length_cut (record { lo = 0; hi = i.hi }) i.lo (omega arith) order m

  -- an interval that ends where it begins, or before, has no pairs
  pub part_of_none : (i : Interval) (m : Map K V) → i.hi ≤ i.lo → length (part path m i) ≡ 0
  part_of_none i [] order = refl
  part_of_none i (e ∷ m) order =
      let out : lies_in i (position (path e.0)) ≡ false = grind (arith, nat_tests, order) in
      ap (λ b. length (cond b (e ∷ part path m i) (part path m i))) out ∙ part_of_none i m order
