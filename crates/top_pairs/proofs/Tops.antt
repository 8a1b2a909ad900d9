-- The highest scores of two maps together, and of one pair.
use Rattle.std.proofs.Common.{◌≡◌, ℕ, zero, suc, ◌+◌, ◌≤◌, ◌<◌, List, [], ◌∷◌, ◌++◌, length, map, T, refl, sym, ap, subst, ◌∙◌, arith}
use Rattle.std.specs.Prelude.{min}
use Rattle.std.specs.Cmp.{IsTotalOrder}
use Rattle.std.specs.List.{AllByRecursion}
use Rattle.std.specs.List.Sorted.{IsPermutation}
use Rattle.std.specs.declared.cmp.Ordering.{Ordering}
use Rattle.std.proofs.lemmas.List.{append_assoc, length-append, length-map, map-append}
use Rattle.std.proofs.lemmas.List.Sorted.{IsPermutation-append, IsPermutation-append_comm, IsPermutation-append_left, IsPermutation-append_right, IsPermutation-cons, IsPermutation-map, IsPermutation-middle, IsPermutation-refl, IsPermutation-sym, IsPermutation-trans, length_permutation}
use Rattle.versions.specs.Map.{Map, ShareNoKey, union, with_pair}
use Rattle.combiner.specs.Bulks.{IsAdded, IsJoined}
use Rattle.bulk_work.proofs.Unions.{Split, apart_rest, fresh, put_splits, right_of, truth_of}
use Rattle.std.specs.FinMap.{is_sorted}
use Rattle.top_pairs.specs.Ranks.{AtLeast, IsTop, Listed, pair_of}
use Rattle.top_pairs.specs.Merges.{highest}
use Rattle.top_pairs.proofs.Lists.{all_append, all_back, all_both, all_front, all_in, all_mapped, all_permuted}
use Rattle.top_pairs.proofs.Merging.{Merged, merged}
use Rattle.top_pairs.proofs.Places.{none_left}

module _ {X : Type 0} where
  -- the middle two of four lists exchanged
  pub four : (a b c d : List X) → IsPermutation ((a ++ b) ++ (c ++ d)) ((a ++ c) ++ (b ++ d))
  four a b c d =
      let inner : IsPermutation (b ++ (c ++ d)) (c ++ (b ++ d)) =
      subst (IsPermutation (b ++ (c ++ d))) (append_assoc c b d)
      (subst (λ l. IsPermutation l ((c ++ b) ++ d)) (append_assoc b c d) (IsPermutation-append_left d (b ++ c) (c ++ b) (IsPermutation-append_comm b c))) in
      subst (IsPermutation ((a ++ b) ++ (c ++ d))) (sym (append_assoc a c (b ++ d)))
      (subst (λ l. IsPermutation l (a ++ (c ++ (b ++ d)))) (sym (append_assoc a b (c ++ d))) (IsPermutation-append_right a (b ++ (c ++ d)) (c ++ (b ++ d)) inner))

module _ {K V : Type 0} (R : K → K → Ordering) (o : IsTotalOrder R) where
  -- a union of maps that share no key has the pairs of both
  pub union_has_both : (m n : Map K V) → T (is_sorted R m) → ShareNoKey R m n → IsPermutation (m ++ n) (union R m n)
  union_has_both [] n h apart = IsPermutation-refl n
  union_has_both (x ∷ m) n h apart =
      let rest = union R m n in
      let s : Split R x rest (with_pair R rest x.0 x.1) = put_splits R x.0 x.1 rest (fresh R o x m n h apart) in
      let front : IsPermutation (x ∷ (m ++ n)) (x ∷ (s.before ++ s.behind)) =
      IsPermutation-cons x (m ++ n) (s.before ++ s.behind) (subst (IsPermutation (m ++ n)) s.was (union_has_both m n (right_of _ _ h) (apart_rest R o x m n apart))) in
      let moved : IsPermutation (x ∷ (s.before ++ s.behind)) (s.before ++ x ∷ s.behind) = IsPermutation-sym (s.before ++ x ∷ s.behind) (x ∷ (s.before ++ s.behind)) (IsPermutation-middle s.before x s.behind) in
      subst (IsPermutation (x ∷ (m ++ n))) (sym s.is) (IsPermutation-trans (x ∷ (m ++ n)) (x ∷ (s.before ++ s.behind)) (s.before ++ x ∷ s.behind) front moved)

-- the lesser of two numbers is one of them
pub min_of : (n l c : ℕ) → c ≤ n → c ≤ l → (c < n → l ≤ c) → c ≡ min n l
min_of n l c few within full = grind arith

pub full_of : (n l c others : ℕ) → c ≡ min n l → c + others ≡ l → 0 < others → n ≤ c
full_of n l c others is all some = grind arith

pub size_of : (n l k a b c : ℕ) → a ≡ min n l → b ≡ min n k → c ≤ n → c ≤ a + b → (c < n → a + b ≤ c) → c ≡ min n (l + k)
size_of n l k a b c first second few within full = grind arith

module _ {K V S : Type 0} (R : S → S → Ordering) (gives : K → V → S → Type 0) where
  -- no pairs of none
  pub none_top : (most : ℕ) → IsTop R most gives [] []
  none_top most = record {
    others = [];
    all = IsPermutation-refl [];
    size = min_of most 0 0 (omega arith) (omega arith) (λ less. omega arith);
    falls = tt;
    told = tt;
    highest = λ score means. tt;
  }

  -- one pair, or none, of one pair
  pub one_top : (most : ℕ) (x : Listed K V S) → gives x.key x.value x.score → IsTop R most gives (pair_of x ∷ []) (highest R most [] (x ∷ []))
  one_top zero x says = record {
    others = pair_of x ∷ [];
    all = IsPermutation-refl (pair_of x ∷ []);
    size = min_of 0 1 0 (omega arith) (omega arith) (λ less. absurd (omega (arith, less)));
    falls = tt;
    told = tt;
    highest = λ score means. (tt, tt);
  }
  one_top (suc n) x says = subst (λ (l : List (Listed K V S)). IsTop R (suc n) gives (pair_of x ∷ []) (x ∷ l)) (sym (none_left R n)) (record {
    others = [];
    all = IsPermutation-refl (pair_of x ∷ []);
    size = min_of (suc n) 1 1 (omega arith) (omega arith) (λ less. omega arith);
    falls = (tt, tt);
    told = (says, tt);
    highest = λ score means. tt;
  })

  pub same_one : (n : ℕ) (xs : List (Listed K V S)) (x : Listed K V S) → highest R n xs (highest R n [] (x ∷ [])) ≡ highest R n xs (x ∷ [])
  same_one zero xs x = refl
  same_one (suc n) xs x = ap (λ (l : List (Listed K V S)). highest R (suc n) xs (x ∷ l)) (none_left R n)

  counted : (most : ℕ) (m : Map K V) (xs : List (Listed K V S)) (t : IsTop R most gives m xs) → length xs + length t.others ≡ length m
  counted most m xs t =
      let a = length-append (map pair_of xs) t.others in
      let b = length-map xs (λ (x : Listed K V S). pair_of x) in
      let c = length_permutation m (map pair_of xs ++ t.others) t.all in
      omega (arith, a, b, c)

  -- the others of one map score no higher than what is kept of both
  others_lower : (most : ℕ) (score : K → V → S) (xs kept : List (Listed K V S)) (others : Map K V) → (0 < length others → most ≤ length xs)
      → ((s : S) → most ≤ length xs → AllByRecursion (AtLeast R s) xs → AllByRecursion (AtLeast R s) kept)
      → AllByRecursion (λ y. AllByRecursion (AtLeast R (score y.0 y.1)) xs) others → AllByRecursion (λ y. AllByRecursion (AtLeast R (score y.0 y.1)) kept) others
  others_lower most score xs kept [] full over all = tt
  others_lower most score xs kept (y ∷ others) full over all =
      all_in (λ (y : K × V). AllByRecursion (AtLeast R (score y.0 y.1)) xs) (λ y. AllByRecursion (AtLeast R (score y.0 y.1)) kept) (λ y. over (score y.0 y.1) (full (omega arith))) (y ∷ others) all

  module _ (o : IsTotalOrder R) where
    -- the highest of two maps together
    pub both_top : (most : ℕ) (m n u : Map K V) (xs ys : List (Listed K V S)) → IsTop R most gives m xs → IsTop R most gives n ys → IsPermutation (m ++ n) u → IsTop R most gives u (highest R most xs ys)
    both_top most m n u xs ys t w same =
        let kept = highest R most xs ys in
        let merge : Merged R most xs ys kept = merged R o most xs ys t.falls w.falls in
        let pairs = λ (l : List (Listed K V S)). map pair_of l in
        let rest = t.others ++ w.others in
        let P : Listed K V S → Type 0 = λ x. gives x.key x.value x.score in
        let told : AllByRecursion P (kept ++ merge.cut) = all_permuted P (xs ++ ys) (kept ++ merge.cut) merge.all (all_append P xs ys t.told w.told) in
        let apart : IsPermutation (m ++ n) ((pairs xs ++ t.others) ++ (pairs ys ++ w.others)) = IsPermutation-append m (pairs xs ++ t.others) n (pairs ys ++ w.others) t.all w.all in
        let listed : IsPermutation (m ++ n) ((pairs xs ++ pairs ys) ++ rest) =
        IsPermutation-trans (m ++ n) ((pairs xs ++ t.others) ++ (pairs ys ++ w.others)) ((pairs xs ++ pairs ys) ++ rest) apart (four (pairs xs) t.others (pairs ys) w.others) in
        let cut : IsPermutation (pairs xs ++ pairs ys) (pairs kept ++ pairs merge.cut) =
        subst (IsPermutation (pairs xs ++ pairs ys)) (map-append pair_of kept merge.cut)
        (subst (λ (l : Map K V). IsPermutation l (pairs (kept ++ merge.cut))) (map-append pair_of xs ys) (IsPermutation-map pair_of (xs ++ ys) (kept ++ merge.cut) merge.all)) in
        let ended : IsPermutation (m ++ n) ((pairs kept ++ pairs merge.cut) ++ rest) =
        IsPermutation-trans (m ++ n) ((pairs xs ++ pairs ys) ++ rest) ((pairs kept ++ pairs merge.cut) ++ rest) listed (IsPermutation-append_left rest (pairs xs ++ pairs ys) (pairs kept ++ pairs merge.cut) cut) in
        let sum : length u ≡ length m + length n = length_permutation (m ++ n) u same ∙ length-append m n in
        record {
          others = pairs merge.cut ++ rest;
          all = IsPermutation-trans u (m ++ n) (pairs kept ++ (pairs merge.cut ++ rest)) (IsPermutation-sym (m ++ n) u same) (subst (IsPermutation (m ++ n)) (append_assoc (pairs kept) (pairs merge.cut) rest) ended);
          size = size_of most (length m) (length n) (length xs) (length ys) (length kept) t.size w.size merge.few merge.within merge.full ∙ ap (min most) (sym sum);
          falls = merge.falls;
          told = all_front P kept merge.cut told;
          highest = λ score means.
              let A : K × V → Type 0 = λ y. AllByRecursion (AtLeast R (score y.0 y.1)) kept in
              let B : Listed K V S → Type 0 = λ y. AllByRecursion (AtLeast R y.score) kept in
              all_append A (pairs merge.cut) rest
              (all_mapped pair_of A merge.cut (all_in (λ y. B y × P y) (λ y. A (pair_of y)) (λ y h. subst (λ s. AllByRecursion (AtLeast R s) kept) (means y.key y.value y.score h.1) h.0) merge.cut
              (all_both B P merge.cut merge.over (all_back P kept merge.cut told))))
              (all_append A t.others w.others
              (others_lower most score xs kept t.others (full_of most (length m) (length xs) (length t.others) t.size (counted most m xs t)) merge.left (t.highest score means))
              (others_lower most score ys kept w.others (full_of most (length n) (length ys) (length w.others) w.size (counted most n ys w)) merge.right (w.highest score means)));
        }

    module _ (C : K → K → Ordering) (k : IsTotalOrder C) where
      -- the lists of two maps that share no key, joined
      pub joined_top : (most : ℕ) (a b : List (Listed K V S)) → IsJoined C (IsTop R most gives) a b (highest R most a b)
      joined_top most a b m n t w apart = both_top most m n (union C m n) a b t w (union_has_both C k m n (truth_of _ apart.left) apart.apart)

      -- a pair added to those before it
      pub added_top : (most : ℕ) (old : List (Listed K V S)) (x : Listed K V S) → gives x.key x.value x.score → IsAdded C (IsTop R most gives) old x.key x.value (highest R most old (x ∷ []))
      added_top most old x says m t apart =
          let one = pair_of x ∷ [] in
          let u = with_pair C m x.key x.value in
          subst (IsTop R most gives u) (same_one most old x)
          (both_top most m one u old (highest R most [] (x ∷ [])) t (one_top most x says)
          (IsPermutation-trans (m ++ one) (one ++ m) u (IsPermutation-append_comm m one) (union_has_both C k one m (truth_of _ apart.left) apart.apart)))
