-- Sums of numbers of 64 bits do not wrap.
use Rattle.std.proofs.Common.{◌≡◌, ◌∙◌, ◌*◌, ◌^◌, ◌≤◌, ◌+ℤ◌, ◌≤ℤ◌, ℤ, pos, neg_ℤ, All, List, [], ◌∷◌, ap, arith, length, map, refl}
use Rattle.std.proofs.lemmas.Int.{int_wrap_fits, ints}
use Rattle.std.proofs.lemmas.List.Elements.{All-head, All-tail}
use Rattle.std.specs.Int.{w128}
use Rattle.combiner.specs.Monoids.{folded}
use Rattle.combiner.specs.Numbers.{IsI64, IsI128, wrapped_sum}

-- the sum that does not wrap
abbrev plain : List ℤ → ℤ
plain xs = folded ◌+ℤ◌ (pos 0) xs

-- a sum of n numbers is from -n * 2^63 to n * (2^63 - 1)
plain-bounds : (xs : List ℤ) → All IsI64 xs → (neg_ℤ (pos (length xs * 2 ^ 63)) ≤ℤ plain xs) × ((plain xs +ℤ pos (length xs)) ≤ℤ pos (length xs * 2 ^ 63))
plain-bounds [] all = (omega (arith, ints), omega (arith, ints))
plain-bounds (x ∷ xs) all =
    let head : IsI64 x = All-head IsI64 x xs all in
    let rest = plain-bounds xs (All-tail IsI64 x xs all) in
    let low = rest.0 in
    let high = rest.1 in
    (omega (arith, ints), omega (arith, ints))

-- of at most 2^64 numbers it is a number of 128 bits
plain-fits : (xs : List ℤ) → All IsI64 xs → length xs ≤ 2 ^ 64 → IsI128 (plain xs)
plain-fits xs all few =
    let bounds = plain-bounds xs all in
    let low = bounds.0 in
    let high = bounds.1 in
    omega (arith, ints)

-- no step wraps, as what is added at each is such a sum
pub wrapped-is_plain : (xs : List ℤ) → All IsI64 xs → length xs ≤ 2 ^ 64 → folded wrapped_sum (pos 0) xs ≡ folded ◌+ℤ◌ (pos 0) xs
wrapped-is_plain [] all few = refl
wrapped-is_plain (x ∷ xs) all few =
    ap (wrapped_sum x) (wrapped-is_plain xs (All-tail IsI64 x xs all) (omega arith)) ∙ int_wrap_fits w128 (plain (x ∷ xs)) (plain-fits (x ∷ xs) all few)

-- an operation that adds the numbers within another type makes of them what holds their sum
pub folded-within : {A : Type 0} (op : A → A → A) (item : ℤ → A) → ((a b : ℤ) → op (item a) (item b) ≡ item (wrapped_sum a b)) → (xs : List ℤ) → folded op (item (pos 0)) (map item xs) ≡ item (folded wrapped_sum (pos 0) xs)
folded-within op item adds [] = refl
folded-within op item adds (x ∷ xs) = ap (op (item x)) (folded-within op item adds xs) ∙ adds x (folded wrapped_sum (pos 0) xs)
