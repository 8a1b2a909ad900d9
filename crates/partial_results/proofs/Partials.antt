-- What is true of a partial stays true when more is worked.
use Rattle.std.proofs.Common.{◌≡◌, ℕ, suc, ◌+◌, ◌≤◌, Bool, true, false, ◌||◌, cond, List, [], ◌∷◌, ◌++◌, length, Option, None, Some, refl, sym, ap, ◌∙◌, subst, arith}
use Rattle.std.specs.Prelude.{All, Contains}
use Rattle.std.specs.List.{list_any}
use Rattle.std.specs.Option.{unwrap_or}
use Rattle.std.specs.declared.cmp.Ordering.{Ordering}
use Rattle.std.proofs.lemmas.List.Elements.{All-append, All-contains, All-contains_itself, All-filter, All-push}
use Rattle.hash_path.specs.Digits.{position}
use Rattle.trie_shape.specs.Map.{Map, IsMap, ShareNoKey, union}
use Rattle.versions.specs.declared.version.TheConstants.{MOST_PAIRS}
use Rattle.iter.specs.declared.interval.Interval.{Interval}
use Rattle.iter.specs.Intervals.{AreApart, lies_in, cover, part, parts}
use Rattle.splitter.specs.Cuts.{cut_point}
use Rattle.combiner.specs.Unions as unions
use Rattle.combiner.specs.Bulks.{Apart, IsJoined, IsJoinedMap}
use Rattle.iter.proofs.Tiling.{cover_cons, cover_append}
use Rattle.partial_results.specs.Worked.{once, IsPartial}
use Rattle.partial_results.proofs.Covering.{cover_push}

-- a position that lies in one of some intervals is covered
any_cover : (is : List Interval) (p : ℕ) → list_any (λ i. lies_in i p) is ≡ true → 1 ≤ cover is p
any_cover [] p e = cc
any_cover (i ∷ is) p e = by (lies_in i p) (list_any (λ i. lies_in i p) is) (cover is p) (cover_cons i is p) e (any_cover is p)
  where
    by : {n : ℕ} (a b : Bool) (c : ℕ) → n ≡ cond a 1 0 + c → (a || b) ≡ true → (b ≡ true → 1 ≤ c) → 1 ≤ n
    by true b c e any rest = omega (arith, e)
    by false b c e any rest = omega (arith, e, rest any)

-- two parts of a map by intervals that are apart have no more pairs together than the map
few_together : {K V : Type 0} (path : K → ℕ) (m : Map K V) (is js : List Interval) → AreApart (is ++ js) → length (parts path m is) + length (parts path m js) ≤ length m
few_together path [] is js apart = omega arith
few_together path (x ∷ m) is js apart =
    let p : ℕ = position (path x.0) in
    one (list_any (λ i. lies_in i p) is) (list_any (λ i. lies_in i p) js) x (parts path m is) (parts path m js) (length m) (few_together path m is js apart)
    (λ a b. omega (arith, any_cover is p a, any_cover js p b, cover_append is js p, apart p))
  where
    one : {X : Type 0} (a b : Bool) (x : X) (xs ys : List X) (n : ℕ) → length xs + length ys ≤ n → (a ≡ true → b ≡ true → ⊥) → length (cond a (x ∷ xs) xs) + length (cond b (x ∷ ys) ys) ≤ suc n
    one true true x xs ys n h clash = absurd (clash refl refl)
    one true false x xs ys n h clash = omega (arith, h)
    one false true x xs ys n h clash = omega (arith, h)
    one false false x xs ys n h clash = omega (arith, h)

-- it holds of none, and of one
pub all_none : {X : Type 0} (P : X → Type 0) → All P []
all_none P k d lt = absurd (omega (arith, lt))

pub all_one : {X : Type 0} (P : X → Type 0) (x : X) → P x → All P (x ∷ [])
all_one P x h = All-push P [] x (all_none P) h

-- no intervals have no pairs
pub none_of : {K V : Type 0} (path : K → ℕ) (m : Map K V) → parts path m [] ≡ []
none_of path [] = refl
none_of path (x ∷ m) = none_of path m

-- nothing is worked yet
pub begun : {K V B P : Type 0} (R : K → K → Ordering) (path : K → ℕ) (answers : B → Map K V → P → Type 0) (ready : B → Type 0) (n m : Map K V) (grain : ℕ) (named : Option B) (b : B) (p : P)
    → n ≡ m → Some b ≡ named → ready b → IsMap R n → length n ≤ MOST_PAIRS → answers b [] p → IsPartial R path answers ready m grain named b p [] []
begun R path answers ready n m grain named b p e name is sorted few unit = record {
  is_named = name;
  is_ready = is;
  sorted = subst (IsMap R) e sorted;
  few = subst (λ x. length x ≤ MOST_PAIRS) e few;
  apart = λ x. omega arith;
  uncut = all_none (λ i. cut_point path m i grain ≡ None);
  answered = subst (λ x. answers b x p) (sym (none_of path m)) unit;
  same = λ x. refl;
}

pub begun_at : {K V B P : Type 0} (R : K → K → Ordering) (path : K → ℕ) (answers : B → Map K V → P → Type 0) (ready : B → Type 0) (n m : Map K V) (grain : ℕ) (named : Option B) (b : B) (p : P) (ws rs : List Interval)
    → n ≡ m → Some b ≡ named → ready b → IsMap R n → length n ≤ MOST_PAIRS → answers b [] p → ws ≡ [] → rs ≡ [] → IsPartial R path answers ready m grain named b p ws rs
begun_at R path answers ready n m grain named b p ws rs e name is sorted few unit none nor =
    subst (λ xs. IsPartial R path answers ready m grain named b p xs rs) (sym none)
    (subst (λ xs. IsPartial R path answers ready m grain named b p [] xs) (sym nor) (begun R path answers ready n m grain named b p e name is sorted few unit))

-- a part by intervals is within the map
pub within : {K V : Type 0} (path : K → ℕ) (m : Map K V) (is : List Interval) → unions.IsWithin (parts path m is) m
within path m is x there = All-contains (Contains m) (parts path m is) x (All-filter (λ e. list_any (λ i. lies_in i (position (path e.0))) is) (Contains m) m (All-contains_itself m)) there

-- the same operation by one name
pub same_named : {B : Type 0} {named : Option B} (a b : B) → Some a ≡ named → Some b ≡ named → b ≡ a
same_named a b e h = ap (λ o. unwrap_or o a) (h ∙ sym e)

module _ {K V B P : Type 0} (R : K → K → Ordering) (path : K → ℕ) (answers : B → Map K V → P → Type 0) (ready : B → Type 0) (m : Map K V) (grain : ℕ) (named : Option B)
    (law_one : (m : Map K V) (i : Interval) → part path m i ≡ parts path m (i ∷ []))
    (law_map : (m : Map K V) (is : List Interval) → IsMap R m → IsMap R (parts path m is))
    (law_apart : (m : Map K V) (is js : List Interval) → AreApart (is ++ js) → ShareNoKey R (parts path m is) (parts path m js))
    (law_union : (m : Map K V) (is js : List Interval) → IsMap R m → parts path m (is ++ js) ≡ union R (parts path m is) (parts path m js))
  where
    abbrev T : B → P → List Interval → List Interval → Type 0
    T b p ws rs = IsPartial R path answers ready m grain named b p ws rs

    maps_apart : (b : B) (p : P) (ws rs vs : List Interval) → T b p ws rs → AreApart (ws ++ vs) → unions.AreApart R (parts path m ws) (parts path m vs)
    maps_apart b p ws rs vs t apart = record {
      left = law_map m ws t.sorted;
      right = law_map m vs t.sorted;
      apart = law_apart m ws vs apart;
      few = omega (arith, few_together path m ws vs apart, t.few);
    }

    -- parts of lists that are apart may be joined
    may_join : (b : B) (p q : P) (ws rs vs : List Interval) → T b p ws rs → AreApart (ws ++ vs) → answers b (parts path m vs) q → Apart R (answers b) p q
    may_join b p q ws rs vs t apart has = record {
      first = parts path m ws;
      second = parts path m vs;
      first_is = t.answered;
      second_is = has;
      apart = maps_apart b p ws rs vs t apart;
    }

    -- where a part answers the positions of two lists that are apart, it is of both
    grown : (b : B) (p c : P) (ws rs vs qs : List Interval) → T b p ws rs → AreApart (ws ++ vs) → All (λ i. cut_point path m i grain ≡ None) vs
        → IsJoinedMap R (answers b) p (parts path m vs) c → ((x : ℕ) → cover qs x ≡ cover (ws ++ vs) x) → T b c (ws ++ vs) qs
    grown b p c ws rs vs qs t apart uncut join runs = record {
      is_named = t.is_named;
      is_ready = t.is_ready;
      sorted = t.sorted;
      few = t.few;
      apart = apart;
      uncut = All-append (λ i. cut_point path m i grain ≡ None) ws vs t.uncut uncut;
      answered = subst (λ (n : Map K V). answers b n c) (sym (law_union m ws vs t.sorted)) (join (parts path m ws) t.answered (maps_apart b p ws rs vs t apart));
      same = runs;
    }

    -- a piece may be worked
    pub may_work : (b : B) (p : P) (ws rs : List Interval) (i : Interval) → T b p ws rs → AreApart (ws ++ i ∷ []) → (n : Map K V) × answers b n p × unions.AreApart R n (part path m i)
    may_work b p ws rs i t apart = (parts path m ws, t.answered, subst (unions.AreApart R (parts path m ws)) (sym (law_one m i)) (maps_apart b p ws rs (i ∷ []) t apart))

    -- and is then worked
    pub has_worked : (b : B) (p c : P) (ws rs qs : List Interval) (i : Interval) → T b p ws rs → AreApart (ws ++ i ∷ []) → cut_point path m i grain ≡ None
        → IsJoinedMap R (answers b) p (part path m i) c → ((x : ℕ) → cover qs x ≡ cover rs x + once i x) → T b c (ws ++ i ∷ []) qs
    has_worked b p c ws rs qs i t apart uncut join runs =
        grown b p c ws rs (i ∷ []) qs t apart (all_one (λ j. cut_point path m j grain ≡ None) i uncut) (subst (λ (n : Map K V). IsJoinedMap R (answers b) p n c) (law_one m i) join) (λ x. omega (arith, runs x, t.same x, cover_push ws i x))

    -- what another has worked may be joined
    pub may_take : (b d : B) (p q : P) (ws rs vs qs : List Interval) → T b p ws rs → T d q vs qs → AreApart (ws ++ vs) → Apart R (answers b) p q
    may_take b d p q ws rs vs qs t u apart = may_join b p q ws rs vs t apart (subst (λ (e : B). answers e (parts path m vs) q) (same_named b d t.is_named u.is_named) u.answered)

    -- and is then worked here
    pub has_taken : (b d : B) (p q c : P) (ws rs vs qs : List Interval) → T b p ws rs → T d q vs qs → AreApart (ws ++ vs) → IsJoined R (answers b) p q c → T b c (ws ++ vs) (rs ++ qs)
    has_taken b d p q c ws rs vs qs t u apart join =
        grown b p c ws rs vs (rs ++ qs) t apart u.uncut (λ n is. join n (parts path m vs) is (subst (λ (e : B). answers e (parts path m vs) q) (same_named b d t.is_named u.is_named) u.answered))
        (λ x. omega (arith, cover_append rs qs x, cover_append ws vs x, t.same x, u.same x))
