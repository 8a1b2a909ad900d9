-- What two lists by score are as one.
use Rattle.std.proofs.Common.{◌≡◌, ℕ, zero, suc, ◌+◌, ◌≤◌, ◌<◌, List, [], ◌∷◌, ◌++◌, length, cond, Bool, true, false, refl, arith}
use Rattle.std.specs.Cmp.{IsTotalOrder}
use Rattle.std.specs.List.{AllByRecursion}
use Rattle.std.specs.List.Sorted.{IsPermutation}
use Rattle.std.specs.Ordering.{is_lt}
use Rattle.std.specs.declared.cmp.Ordering.{Ordering}
use Rattle.std.proofs.lemmas.List.Sorted.{IsPermutation-append_comm, IsPermutation-cons, IsPermutation-refl, IsPermutation-trans}
use Rattle.top_pairs.specs.Ranks.{AtLeast, Falls, Listed}
use Rattle.top_pairs.specs.Merges.{highest}
use Rattle.top_pairs.proofs.Orders.{at_least, not_less}
use Rattle.top_pairs.proofs.Lists.{all_append, all_back, all_front, all_in, all_more, all_of, all_permuted}
use Rattle.top_pairs.proofs.Places.{less_by, not_less_by}

module _ {K V S : Type 0} (R : S → S → Ordering) where
  -- kept are the n highest of both lists
  pub record Merged (n : ℕ) (xs ys kept : List (Listed K V S)) : Type 0 where
    pub cut : List (Listed K V S)
    pub all : IsPermutation (xs ++ ys) (kept ++ cut)
    pub few : length kept ≤ n
    pub within : length kept ≤ length xs + length ys
    pub full : length kept < n → length xs + length ys ≤ length kept
    pub falls : Falls R kept
    -- what is cut scores no higher than what is kept
    pub over : AllByRecursion (λ y. AllByRecursion (AtLeast R y.score) kept) cut
    -- where one list alone has n, what is kept scores no lower than all of it
    pub left : (s : S) → n ≤ length xs → AllByRecursion (AtLeast R s) xs → AllByRecursion (AtLeast R s) kept
    pub right : (s : S) → n ≤ length ys → AllByRecursion (AtLeast R s) ys → AllByRecursion (AtLeast R s) kept

  -- the same of the lists exchanged
  exchanged : (n : ℕ) (xs ys kept : List (Listed K V S)) → Merged n xs ys kept → Merged n ys xs kept
  exchanged n xs ys kept m = record {
    cut = m.cut;
    all = IsPermutation-trans (ys ++ xs) (xs ++ ys) (kept ++ m.cut) (IsPermutation-append_comm ys xs) m.all;
    few = m.few;
    within = omega (arith, m.within);
    full = λ less. let f = m.full less in omega (arith, f);
    falls = m.falls;
    over = m.over;
    left = m.right;
    right = m.left;
  }

  merged_none : (xs ys : List (Listed K V S)) → Merged 0 xs ys []
  merged_none xs ys = record {
    cut = xs ++ ys;
    all = IsPermutation-refl (xs ++ ys);
    few = omega arith;
    within = omega arith;
    full = λ less. absurd (omega (arith, less));
    falls = tt;
    over = all_of (λ (y : Listed K V S). AllByRecursion (AtLeast {K = K} {V = V} R y.score) []) (λ y. tt) (xs ++ ys);
    left = λ s le all. tt;
    right = λ s le all. tt;
  }

  merged_nothing : (n : ℕ) → Merged n [] [] []
  merged_nothing n = record {
    cut = [];
    all = IsPermutation-refl [];
    few = omega arith;
    within = omega arith;
    full = λ less. omega arith;
    falls = tt;
    over = tt;
    left = λ s le all. tt;
    right = λ s le all. tt;
  }

  module _ (o : IsTotalOrder R) where
    -- the first pair of the other list is no higher than x, which scores no lower than s
    over_first : (s : S) (n : ℕ) (x : Listed K V S) (ys : List (Listed K V S)) → suc n ≤ length ys → AllByRecursion (λ y. AtLeast R y.score x) ys → AllByRecursion (AtLeast R s) ys → AtLeast R s x
    over_first s n x [] le lower all = absurd (omega arith)
    over_first s n x (y ∷ ys) le lower all = at_least R o x.score y.score s lower.0 all.0

    -- a pair that scores no lower than all others is the first
    with_first : (n : ℕ) (x : Listed K V S) (xs ys kept : List (Listed K V S)) → AllByRecursion (λ y. AtLeast R y.score x) xs → AllByRecursion (λ y. AtLeast R y.score x) ys → Merged n xs ys kept → Merged (suc n) (x ∷ xs) ys (x ∷ kept)
    with_first n x xs ys kept lower others m =
        let P : Listed K V S → Type 0 = λ y. AtLeast R y.score x in
        let all : AllByRecursion P (kept ++ m.cut) = all_permuted P (xs ++ ys) (kept ++ m.cut) m.all (all_append P xs ys lower others) in
        record {
          cut = m.cut;
          all = IsPermutation-cons x (xs ++ ys) (kept ++ m.cut) m.all;
          few = omega (arith, m.few);
          within = omega (arith, m.within);
          full = λ less. let f = m.full (omega (arith, less)) in omega (arith, f);
          falls = (all_front P kept m.cut all, m.falls);
          over = all_more (λ y. AtLeast R y.score) x kept m.cut (all_back P kept m.cut all) m.over;
          left = λ s le at. (at.0, m.left s (omega (arith, le)) at.1);
          right = λ s le at. (over_first s n x ys le others at, m.right s (omega (arith, le)) at);
        }

    with_second : (n : ℕ) (y : Listed K V S) (xs ys kept : List (Listed K V S)) → AllByRecursion (λ x. AtLeast R x.score y) xs → AllByRecursion (λ x. AtLeast R x.score y) ys → Merged n xs ys kept → Merged (suc n) xs (y ∷ ys) (y ∷ kept)
    with_second n y xs ys kept others lower m = exchanged (suc n) (y ∷ ys) xs (y ∷ kept) (with_first n y ys xs kept lower others (exchanged n xs ys kept m))

    -- all behind x score no higher than what x scores no higher than
    lower_rest : (x z : Listed K V S) (xs : List (Listed K V S)) → AtLeast R x.score z → AllByRecursion (λ y. AtLeast R y.score x) xs → AllByRecursion (λ y. AtLeast R y.score z) xs
    lower_rest x z xs not = all_in (λ y. AtLeast R y.score x) (λ y. AtLeast R y.score z) (λ y other. at_least R o z.score x.score y.score not other) xs

    either : (n : ℕ) (x y : Listed K V S) (xs ys k l : List (Listed K V S)) (b : Bool) → is_lt (R x.score y.score) ≡ b → Falls R (x ∷ xs) → Falls R (y ∷ ys)
        → Merged n (x ∷ xs) ys k → Merged n xs (y ∷ ys) l → Merged (suc n) (x ∷ xs) (y ∷ ys) (cond b (y ∷ k) (x ∷ l))
    either n x y xs ys k l true e falls other m p =
        let not = not_less R o x.score y.score (less_by (R x.score y.score) e) in
        with_second n y (x ∷ xs) ys k (not, lower_rest x y xs not falls.0) other.0 m
    either n x y xs ys k l false e falls other m p =
        let not = not_less_by (R x.score y.score) e in
        with_first n x xs (y ∷ ys) l falls.0 (not, lower_rest y x ys not other.0) p

    pub merged : (n : ℕ) (xs ys : List (Listed K V S)) → Falls R xs → Falls R ys → Merged n xs ys (highest R n xs ys)
    merged zero xs ys falls other = merged_none xs ys
    merged (suc n) [] [] falls other = merged_nothing (suc n)
    merged (suc n) [] (y ∷ ys) falls other = with_second n y [] ys (highest R n [] ys) tt other.0 (merged n [] ys tt other.1)
    merged (suc n) (x ∷ xs) [] falls other = with_first n x xs [] (highest R n xs []) falls.0 tt (merged n xs [] falls.1 tt)
    merged (suc n) (x ∷ xs) (y ∷ ys) falls other =
        either n x y xs ys (highest R n (x ∷ xs) ys) (highest R n xs (y ∷ ys)) (is_lt (R x.score y.score)) refl falls other (merged n (x ∷ xs) ys falls other.1) (merged n xs (y ∷ ys) falls.1 other)
