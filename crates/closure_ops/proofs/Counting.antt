-- Counts of two maps together, and of a map with one pair more.
use mir.Val.{bool_byte}
use Rattle.std.proofs.Common.{◌≡◌, ℕ, ◌+◌, ◌≤◌, ◌<◌, Bool, true, false, cond, length, [], ◌∷◌, refl, sym, ap, subst, ◌∙◌, arith}
use Rattle.std.proofs.Math.Bridge.{le_prop}
use Rattle.std.proofs.Math.Logic.{∥∥₁_elim}
use Rattle.std.specs.Cmp.{IsTotalOrder}
use Rattle.std.specs.declared.cmp.Ordering.{Ordering}
use Rattle.versions.specs.Map.{Map, union, with_pair}
use Rattle.versions.specs.declared.version.TheConstants.{MOST_PAIRS}
use Rattle.combiner.specs.Bulks.{CanAdd, CanJoin, IsAdded, IsJoined}
use Rattle.bulk_ops.proofs.Totals.{count_union, length_union}
use Rattle.bulk_work.proofs.Unions.{truth_of}
use Rattle.closure_ops.specs.Parts.{IsCount}

-- a truth as a number is how many of one pair pass
number_of : {A : Type 0} (x : A) (b : Bool) → bool_byte b ≡ length (cond b (x ∷ []) [])
number_of x true = refl
number_of x false = refl

pub number_few : (b : Bool) (n : ℕ) → n ≡ bool_byte b → n ≤ 1
number_few true n is = omega arith
number_few false n is = omega arith

module _ {K V : Type 0} (gives : K → V → Bool → Type 0) where
  abbrev Counted : Map K V → ℕ → Type 0
  Counted m n = IsCount gives m n

  -- none of no pairs
  pub none_counted : Counted [] 0
  none_counted = record { few = omega arith; exact = λ p means. refl }

  -- one pair, or none, of one pair
  pub one_counted : (k : K) (v : V) (b : Bool) (n : ℕ) → n ≡ bool_byte b → gives k v b → Counted ((k, v) ∷ []) n
  one_counted k v b n is says = record {
    few = number_few b n is;
    exact = λ p means. is ∙ number_of {A = K × V} (k, v) b ∙ ap (λ (t : Bool). length {A = K × V} (cond t ((k, v) ∷ []) [])) (means k v b says);
  }

  module _ (R : K → K → Ordering) where
    -- two counts that can be joined count no more than a map may have
    pub both_few : (a b : ℕ) → CanJoin R Counted a b → a + b ≤ MOST_PAIRS
    both_few a b can = ∥∥₁_elim can le_prop (λ x. omega (arith, x.first_is.few, x.second_is.few, x.apart.few))

    -- a count that a pair can be added to is less than that
    pub has_room : (k : K) (v : V) (a : ℕ) → CanAdd R Counted a k v → a < MOST_PAIRS
    has_room k v a can = ∥∥₁_elim can le_prop (λ x. omega (arith, x.1.few, x.2.few))

    module _ (o : IsTotalOrder R) where
      -- two counts joined
      pub both_counted : (a b : ℕ) → IsJoined R Counted a b (a + b)
      both_counted a b m n x y apart =
          let all : length (union R m n) ≡ length m + length n = length_union R o m n (truth_of _ apart.left) apart.apart in
          record {
            few = omega (arith, x.few, y.few, all);
            exact = λ p means. (λ i. x.exact p means i + y.exact p means i) ∙ sym (count_union R o p m n (truth_of _ apart.left) apart.apart);
          }

      -- a pair counted beside those before it
      pub one_more : (k : K) (v : V) (b : Bool) (a n : ℕ) → n ≡ bool_byte b → gives k v b → IsAdded R Counted a k v (a + n)
      one_more k v b a n is says m x apart =
          let swapped : a + n ≡ n + a = omega arith in
          subst (λ (c : ℕ). Counted (with_pair R m k v) c) (sym swapped) (both_counted n a ((k, v) ∷ []) m (one_counted k v b n is says) x apart)
