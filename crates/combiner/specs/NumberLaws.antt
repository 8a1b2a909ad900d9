-- Sums that wrap, and the least and the greatest of numbers, are combined in any order.
use Rattle.std.specs.Prelude.{◌≡◌, ℤ, pos, Option, Some, None, refl}
use Rattle.std.specs.Int.{int_wrap, int_min, int_max, w128}
use Rattle.std.proofs.Common.{ap, sym, ◌∙◌, arith}
use Rattle.std.proofs.lemmas.Int.{int_wrap-add_left, int_wrap-add_right, SFits-int_wrap, int_wrap_fits, clamps, ints}
use Rattle.std.proofs.Math.IntN.{◌+ℤ◌, +ℤ_comm, +ℤ_idr, +ℤ_assoc}
use Rattle.combiner.specs.Numbers.{IsI128, wrapped_sum, lesser, greater}

pub sum-associative : (a b c : ℤ) → wrapped_sum (wrapped_sum a b) c ≡ wrapped_sum a (wrapped_sum b c)
sum-associative a b c =
    int_wrap-add_left w128 (a +ℤ b) c ∙ ap (int_wrap w128) (+ℤ_assoc a b c) ∙ sym (int_wrap-add_right w128 a (b +ℤ c))

pub sum-commutative : (a b : ℤ) → wrapped_sum a b ≡ wrapped_sum b a
sum-commutative a b = ap (int_wrap w128) (+ℤ_comm a b)

pub sum-neutral : (a : ℤ) → IsI128 a → wrapped_sum a (pos 0) ≡ a
sum-neutral a h = ap (int_wrap w128) (+ℤ_idr a) ∙ int_wrap_fits w128 a h

pub sum-closed : (a b : ℤ) → IsI128 (wrapped_sum a b)
sum-closed a b = SFits-int_wrap w128 (a +ℤ b)

min-associative : (a b c : ℤ) → int_min (int_min a b) c ≡ int_min a (int_min b c)
min-associative a b c = omega (arith, ints, clamps)

min-commutative : (a b : ℤ) → int_min a b ≡ int_min b a
min-commutative a b = omega (arith, ints, clamps)

max-associative : (a b c : ℤ) → int_max (int_max a b) c ≡ int_max a (int_max b c)
max-associative a b c = omega (arith, ints, clamps)

max-commutative : (a b : ℤ) → int_max a b ≡ int_max b a
max-commutative a b = omega (arith, ints, clamps)

pub lesser-associative : (a b c : Option ℤ) → lesser (lesser a b) c ≡ lesser a (lesser b c)
lesser-associative None b c = refl
lesser-associative (Some a) None c = refl
lesser-associative (Some a) (Some b) None = refl
lesser-associative (Some a) (Some b) (Some c) = ap (λ (n : ℤ). Some n) (min-associative a b c)

pub lesser-commutative : (a b : Option ℤ) → lesser a b ≡ lesser b a
lesser-commutative None None = refl
lesser-commutative None (Some b) = refl
lesser-commutative (Some a) None = refl
lesser-commutative (Some a) (Some b) = ap (λ (n : ℤ). Some n) (min-commutative a b)

pub lesser-neutral : (a : Option ℤ) → lesser a None ≡ a
lesser-neutral None = refl
lesser-neutral (Some a) = refl

pub greater-associative : (a b c : Option ℤ) → greater (greater a b) c ≡ greater a (greater b c)
greater-associative None b c = refl
greater-associative (Some a) None c = refl
greater-associative (Some a) (Some b) None = refl
greater-associative (Some a) (Some b) (Some c) = ap (λ (n : ℤ). Some n) (max-associative a b c)

pub greater-commutative : (a b : Option ℤ) → greater a b ≡ greater b a
greater-commutative None None = refl
greater-commutative None (Some b) = refl
greater-commutative (Some a) None = refl
greater-commutative (Some a) (Some b) = ap (λ (n : ℤ). Some n) (max-commutative a b)

pub greater-neutral : (a : Option ℤ) → greater a None ≡ a
greater-neutral None = refl
greater-neutral (Some a) = refl
