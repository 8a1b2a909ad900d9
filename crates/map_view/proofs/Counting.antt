-- What a walk over a map so far tells of the whole map.
use mir.Val.{bool_byte}
use Rattle.std.proofs.Common.{◌≡◌, ℕ, ◌+◌, ◌≤◌, Bool, true, false, cond, not, ◌&&◌, ◌||◌, List, [], ◌∷◌, length, refl, sym, ap, ◌∙◌, arith, true≢false}
use Rattle.std.specs.List.{list_any, list_all}
use Rattle.std.specs.List.Sorted.{IsPermutation}
use Rattle.std.proofs.lemmas.List.Sorted.{list_any-IsPermutation, sum_by-IsPermutation}
use Rattle.std.proofs.lemmas.List.Sums.{length-filter}
use Rattle.versions.specs.Map.{Map}
use Rattle.combiner.specs.Monoids.{IsAssociative, IsCommutative, folded}
use Rattle.bulk_work.specs.Answers.{passes, passing}

one_of : (t : Bool) → bool_byte t ≡ cond t 1 0
one_of true = refl
one_of false = refl

-- a test as a number
pub at_most_one : (t : Bool) (n : ℕ) → n ≡ bool_byte t → n ≤ 1
at_most_one true n e = omega arith
at_most_one false n e = omega arith

-- an item combined with those before it
pub fold_step : {A : Type 0} (op : A → A → A) → IsAssociative op → IsCommutative op → (a all : A) (rest : List A) → folded op (op a all) rest ≡ op a (folded op all rest)
fold_step op assoc comm a all [] = refl
fold_step op assoc comm a all (b ∷ rest) =
    ap (op b) (fold_step op assoc comm a all rest) ∙ sym (assoc b a (folded op all rest)) ∙ ap (λ c. op c (folded op all rest)) (comm b a) ∙ assoc a b (folded op all rest)

module _ {K V : Type 0} (p : K → V → Bool) where
  counted : (t : Bool) (x : K × V) (rest : Map K V) (n : ℕ) → n + length (cond t (x ∷ passing p rest) (passing p rest)) ≡ n + cond t 1 0 + length (passing p rest)
  counted true x rest n = omega arith
  counted false x rest n = omega arith

  -- one more pair is counted
  pub count_step : (x : K × V) (rest : Map K V) (n one whole : ℕ) (t : Bool) → n + length (passing p (x ∷ rest)) ≡ whole → one ≡ bool_byte t → t ≡ passes p x → n + one + length (passing p rest) ≡ whole
  count_step x rest n one whole t before is_one is =
      ap (λ (k : ℕ). n + k + length (passing p rest)) (is_one ∙ one_of t) ∙ sym (counted t x rest n) ∙ ap (λ (b : Bool). n + length (cond b (x ∷ passing p rest) (passing p rest))) is ∙ before

  -- a pair that passes, and one that does not, before others
  pub any_true : (x : K × V) (rest : Map K V) (t : Bool) → t ≡ passes p x → t ≡ true → list_any (passes p) (x ∷ rest) ≡ true
  any_true x rest t is holds = ap (λ (b : Bool). b || list_any (passes p) rest) (sym is ∙ holds)

  pub any_false : (x : K × V) (rest : Map K V) (t : Bool) → t ≡ passes p x → t ≡ false → list_any (passes p) (x ∷ rest) ≡ list_any (passes p) rest
  any_false x rest t is fails = ap (λ (b : Bool). b || list_any (passes p) rest) (sym is ∙ fails)

  pub all_true : (x : K × V) (rest : Map K V) (t : Bool) → t ≡ passes p x → t ≡ true → list_all (passes p) (x ∷ rest) ≡ list_all (passes p) rest
  all_true x rest t is holds = ap (λ (b : Bool). b && list_all (passes p) rest) (sym is ∙ holds)

  pub all_false : (x : K × V) (rest : Map K V) (t : Bool) → t ≡ passes p x → t ≡ false → list_all (passes p) (x ∷ rest) ≡ false
  all_false x rest t is fails = ap (λ (b : Bool). b && list_all (passes p) rest) (sym is ∙ fails)

  all_is_not_any : (xs : Map K V) → list_all (passes p) xs ≡ not (list_any (λ (x : K × V). not (passes p x)) xs)
  all_is_not_any [] = refl
  all_is_not_any (x ∷ xs) = elim (passes p x) as (λ (b : Bool). (b && list_all (passes p) xs) ≡ not (not b || list_any (λ (x : K × V). not (passes p x)) xs)) [ true ↦ all_is_not_any xs | false ↦ refl ]

  pub count_permuted : (xs ys : Map K V) → IsPermutation xs ys → length (passing p xs) ≡ length (passing p ys)
  count_permuted xs ys same =
      length-filter (passes p) xs ∙ sym (sum_by-IsPermutation (λ (x : K × V). cond (passes p x) 1 0) xs ys same) ∙ sym (length-filter (passes p) ys)

  pub all_permuted : (xs ys : Map K V) → IsPermutation xs ys → list_all (passes p) xs ≡ list_all (passes p) ys
  all_permuted xs ys same =
      all_is_not_any xs ∙ ap not (list_any-IsPermutation (λ (x : K × V). not (passes p x)) xs ys same) ∙ sym (all_is_not_any ys)

  -- a pair that is gone is one that passes
  at_least : (gone t : Bool) (x : K × V) (rest : Map K V) → (gone ≡ true → t ≡ true) → cond gone 1 0 + length (passing p rest) ≤ length (cond t (x ∷ passing p rest) (passing p rest))
  at_least true true x rest fails = omega arith
  at_least true false x rest fails = absurd (true≢false (sym (fails refl)))
  at_least false true x rest fails = omega arith
  at_least false false x rest fails = omega arith

  -- one more pair is gone, or is not
  pub removal_step : (x : K × V) (rest : Map K V) (n one whole : ℕ) (gone : Bool) → n + length (passing p (x ∷ rest)) ≤ whole → one ≡ bool_byte gone → (gone ≡ true → passes p x ≡ true) → n + one + length (passing p rest) ≤ whole
  removal_step x rest n one whole gone before is_one passed =
      let least : cond gone 1 0 + length (passing p rest) ≤ length (passing p (x ∷ rest)) = at_least gone (passes p x) x rest passed in
      let is : one ≡ cond gone 1 0 = is_one ∙ one_of gone in
      omega (arith, before, least, is)
