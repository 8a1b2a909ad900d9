-- Pairs that are gone from a map, no two of one key.
use mir.Val.{bool_byte}
use Rattle.std.proofs.Common.{◌≡◌, ◌≢◌, ℕ, ◌+◌, ◌≤◌, Bool, true, false, cond, ◌&&◌, T, [], ◌∷◌, length, sum_by, refl, sym, ap, subst, arith}
use Rattle.std.specs.Prelude.{All, AllPairs}
use Rattle.std.specs.declared.cmp.Ordering.{Ordering}
use Rattle.std.specs.declared.cmp.Ordering.TheVariants.{Less, Equal, Greater}
use Rattle.std.specs.Ordering.{eq_by_cmp, is_lt, is_eq}
use Rattle.std.specs.Cmp.{IsTotalOrder}
use Rattle.std.specs.FinMap.{is_sorted}
use Rattle.std.specs.FinMap.Entries.{below_all}
use Rattle.std.specs.List.Sorted.{IsPermutation}
use Rattle.std.proofs.lemmas.Cmp.{tied_itself}
use Rattle.std.proofs.lemmas.List.Elements.{All-nil, All-cons}
use Rattle.std.proofs.lemmas.List.Kept.{AllPairs-cons}
use Rattle.std.proofs.lemmas.List.Sorted.{sum_by-IsPermutation}
use Rattle.std.proofs.lemmas.List.Sums.{sum_by-cons}
use Rattle.versions.specs.Map.{Map, IsMap}

left_of : (a b : Bool) → T (a && b) → T a
left_of true b h = tt
left_of false b h = h

right_of : (a b : Bool) → T (a && b) → T b
right_of true b h = h
right_of false b h = absurd h

-- 1 where two keys compare equal
abbrev tied : Ordering → ℕ
tied c = cond (is_eq c) 1 0

less_is_other : (c : Ordering) → T (is_lt c) → tied c ≡ 0
less_is_other Less h = refl
less_is_other Equal h = absurd h
less_is_other Greater h = absurd h

module _ {K V : Type 0} (R : K → K → Ordering) where
  -- how many of the pairs have the key
  abbrev pub of_key : K → Map K V → ℕ
  of_key k m = sum_by (λ (x : K × V). cond (eq_by_cmp R k x.0) 1 0) m

  of_key-cons : (k : K) (x : K × V) (m : Map K V) → of_key k (x ∷ m) ≡ tied (R k x.0) + of_key k m
  of_key-cons k x m = sum_by-cons (λ (x : K × V). cond (eq_by_cmp R k x.0) 1 0) x m

  none_below : (k : K) (m : Map K V) → T (below_all R k m) → of_key k m ≡ 0
  none_below k [] h = refl
  none_below k (x ∷ m) h =
      omega (arith, of_key-cons k x m, less_is_other (R k x.0) (left_of _ _ h), none_below k m (right_of _ _ h))

module _ {K V : Type 0} (R : K → K → Ordering) (o : IsTotalOrder R) where
  same_key : (k j : K) → R k j ≡ Equal → (m : Map K V) → of_key R k m ≡ of_key R j m
  same_key k j is [] = refl
  same_key k j is (x ∷ m) =
      omega (arith, of_key-cons R k x m, of_key-cons R j x m, ap tied (o.congr k j x.0 is), same_key k j is m)

  first_of_key : (c : Ordering) (k : K) (x : K × V) (m : Map K V) → R k x.0 ≡ c → T (below_all R x.0 m) → of_key R k m ≤ 1 → tied c + of_key R k m ≤ 1
  first_of_key Less k x m is below le = omega arith
  first_of_key Equal k x m is below le = omega (arith, same_key k x.0 is m, none_below R x.0 m below)
  first_of_key Greater k x m is below le = omega arith

  -- a map has at most one pair of a key
  at_most_once : (k : K) (m : Map K V) → T (is_sorted R m) → of_key R k m ≤ 1
  at_most_once k [] h = omega arith
  at_most_once k (x ∷ m) h =
      omega (arith, of_key-cons R k x m, first_of_key (R k x.0) k x m refl (left_of _ _ h) (at_most_once k m (right_of _ _ h)))

  others : (k : K) (m : Map K V) → of_key R k m ≤ 0 → All (λ (y : K × V). k ≢ y.0) m
  others k [] le = All-nil (λ (y : K × V). k ≢ y.0)
  others k (y ∷ m) le =
      let rest : of_key R k m ≤ 0 = omega (arith, of_key-cons R k y m) in
      All-cons (λ (y : K × V). k ≢ y.0) y m
      (λ same. absurd (omega (arith, of_key-cons R k y m, ap tied (subst (λ j. R k j ≡ Equal) same (tied_itself o k)))))
      (others k m rest)

  -- where no key has two pairs, no two pairs have one key
  once_of_counts : (m : Map K V) → ((k : K) → of_key R k m ≤ 1) → AllPairs (λ x y. x.0 ≢ y.0) m
  once_of_counts [] le = λ i j d lt l. absurd (omega arith)
  once_of_counts (x ∷ m) le =
      AllPairs-cons (λ (x y : K × V). x.0 ≢ y.0) x m
      (others x.0 m (omega (arith, le x.0, of_key-cons R x.0 x m, ap tied (tied_itself o x.0))))
      (once_of_counts m (λ k. omega (arith, le k, of_key-cons R k x m)))

module _ {K V : Type 0} (R : K → K → Ordering) (view : Map K V) (G H : K → V → Type 0) where
  -- n pairs are gone, for each of which G and H hold, while the rest of the view is still to come: no key has more of the
  -- gone pairs and of the rest than it has of the view
  pub record AreGone (rest : Map K V) (n : ℕ) : Type 0 where
    pub gone : Map K V
    pub many : length gone ≡ n
    pub once : (k : K) → of_key R k gone + of_key R k rest ≤ of_key R k view
    pub each : All (λ (x : K × V). G x.0 x.1 × H x.0 x.1) gone

  pub none_gone : (rest : Map K V) → IsPermutation view rest → AreGone rest 0
  none_gone rest same = record {
    gone = [];
    many = refl;
    once = λ k. omega (arith, sum_by-IsPermutation (λ (x : K × V). cond (eq_by_cmp R k x.0) 1 0) view rest same);
    each = All-nil (λ (x : K × V). G x.0 x.1 × H x.0 x.1);
  }

  -- the first of the rest is gone, with the value that its key has now, or it stays
  pub one_more_gone : (x : K × V) (rest : Map K V) (gone : Bool) (n one : ℕ) → one ≡ bool_byte gone → (gone ≡ true → (v : V) × G x.0 v × H x.0 v) → AreGone (x ∷ rest) n → AreGone rest (n + one)
  one_more_gone x rest true n one is now before =
      let more = now refl in
      record {
        gone = (x.0, more.0) ∷ before.gone;
        many = omega (arith, before.many, is);
        once = λ k. omega (arith, before.once k, of_key-cons R k (x.0, more.0) before.gone, of_key-cons R k x rest);
        each = All-cons (λ (x : K × V). G x.0 x.1 × H x.0 x.1) (x.0, more.0) before.gone (more.1, more.2) before.each;
      }
  one_more_gone x rest false n one is now before = record {
    gone = before.gone;
    many = omega (arith, before.many, is);
    once = λ k. omega (arith, before.once k, of_key-cons R k x rest);
    each = before.each;
  }

  pub all_gone : IsTotalOrder R → (n : ℕ) → IsMap R view → AreGone [] n
      → (gone : Map K V) × (length gone ≡ n) × AllPairs (λ x y. x.0 ≢ y.0) gone × All (λ (x : K × V). G x.0 x.1 × H x.0 x.1) gone
  all_gone o n sorted done =
      (done.gone, done.many, once_of_counts R o done.gone (λ k. omega (arith, done.once k, at_most_once R o k view (subst T (sym sorted) tt))), done.each)
