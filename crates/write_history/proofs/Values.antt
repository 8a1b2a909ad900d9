-- The values that histories leave.
use Rattle.std.proofs.Common.{◌≡◌, ℕ, ◌+◌, ◌<◌, Bool, true, false, cond, List, [], ◌∷◌, ◌++◌, Option, Some, None, refl, ap, sym, ◌∙◌, arith, true≢false, eq-eqb}
use Rattle.std.specs.declared.cmp.Ordering.{Ordering}
use Rattle.std.specs.declared.cmp.Ordering.TheVariants.{Equal}
use Rattle.std.specs.Cmp.{Equal-is}
use Rattle.std.specs.Ordering.{eq_by_cmp}
use mathlib.Core.List.{IsPrefix}
use Rattle.hash_path.specs.Digits.{fan_out}
use Rattle.write_history.specs.declared.entry.Entry.{Entry}
use Rattle.write_history.specs.declared.entry.Write.{Write}
use Rattle.write_history.specs.declared.entry.Write.TheVariants.{Put, Remove, Clear}
use Rattle.write_history.specs.Histories.{count_of, first_digit, is_counted, is_of, value_after, value_from, value_in}
use Rattle.write_history.proofs.Counting.{count_append, count_prefix, small_counted}

not_taken : {A : Type 0} (b : Bool) (x y : A) → (b ≡ true → ⊥) → cond b x y ≡ y
not_taken true x y never = absurd (never refl)
not_taken false x y never = refl

none_counted : (b : Bool) (n : ℕ) → cond b 1 0 + n ≡ 0 → (b ≡ false) × (n ≡ 0)
none_counted true n e = absurd (omega arith)
none_counted false n e = (refl, omega (arith, e))

module _ {K V : Type 0} (R : K → K → Ordering) (path : K → ℕ) where
  pub value_append : (q : K) (old : Option V) (xs ys : List (Entry K V)) → value_from R path q old (xs ++ ys) ≡ value_from R path q (value_from R path q old xs) ys
  value_append q old [] ys = refl
  value_append q old (x ∷ xs) ys = value_append q (value_after R path q old x.write) xs ys

  module _ (exact : (a b : K) → R a b ≡ Equal → a ≡ b) (d : ℕ) where
    -- a write of another digit leaves the value
    one_leaves : (q : K) → first_digit path q ≡ d → (w : Write K V) (old : Option V) → is_of path d w ≡ false → value_after R path q old w ≡ old
    one_leaves q mine (Put k v) old other = not_taken (eq_by_cmp R q k) (Some v) old
        (λ same. true≢false (sym (eq-eqb (first_digit path k) d (ap (first_digit path) (sym (exact q k ((Equal-is (R q k)).0 same))) ∙ mine)) ∙ other))
    one_leaves q mine (Remove k) old other = not_taken (eq_by_cmp R k q) None old
        (λ same. true≢false (sym (eq-eqb (first_digit path k) d (ap (first_digit path) (exact k q ((Equal-is (R k q)).0 same)) ∙ mine)) ∙ other))
    one_leaves q mine Clear old other = absurd (true≢false other)

    module _ (low : d < fan_out) where
      others_leave : (q : K) → first_digit path q ≡ d → (es : List (Entry K V)) (old : Option V) → count_of path d es ≡ 0 → value_from R path q old es ≡ old
      others_leave q mine [] old none = refl
      others_leave q mine (e ∷ es) old none =
          let parts = none_counted (is_counted path d e) (count_of path d es) none in
          ap (λ (o : Option V). value_from R path q o es) (one_leaves q mine e.write old (sym (small_counted path d e low) ∙ parts.0)) ∙ others_leave q mine es old parts.1

      -- a longer history with as many writes of the digit leaves its keys the same values
      same_values : (f h : List (Entry K V)) → IsPrefix f h → count_of path d f ≡ count_of path d h → (q : K) → first_digit path q ≡ d → value_in R path h q ≡ value_in R path f q
      same_values f h pre same q mine =
          let rest : count_of path d pre.0 ≡ 0 = omega (arith, count_append path d f pre.0, ap (count_of path d) pre.1, same) in
          sym (ap (λ (l : List (Entry K V)). value_in R path l q) pre.1) ∙ (value_append q None f pre.0 ∙ others_leave q mine pre.0 (value_in R path f q) rest)

      -- so does one between two such histories
      pub same_between : (f h l : List (Entry K V)) → IsPrefix f h → IsPrefix h l → count_of path d f ≡ count_of path d l → (q : K) → first_digit path q ≡ d → value_in R path h q ≡ value_in R path f q
      same_between f h l pre post same = same_values f h pre (omega (arith, count_prefix path d f h pre, count_prefix path d h l post, same))
