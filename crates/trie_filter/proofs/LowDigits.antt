-- The lowest digit of a bitmap, and a digit above all others.
use Rattle.std.proofs.Common.{◌≡◌, ℕ, ◌+◌, ◌*◌, ◌/◌, ◌%◌, ◌^◌, ◌<◌, ◌≤◌, ◌==◌, cond, List, [], ◌∷◌, ◌++◌, length, refl, sym, ap, ◌∙◌, subst, arith, bit_or}
use Rattle.std.proofs.Math.Nat.{mod-eq_of_lt, pow-le-pow_right}
use Rattle.std.proofs.lemmas.List.{length-append}
use Rattle.std.proofs.lemmas.Nat.{div-add-mod', mod_below, or_lt, pow_below, pow_pos}
use Rattle.std.proofs.lemmas.Nat.Bits.{bit_at-zero, bit_at_above, bit_at_cat_low, bit_at_clear_same, bit_at_set_other, bit_at_set_same, same_from_bits_below}
use Rattle.std.specs.Int.{bit_at, bit_not, w32}
use Rattle.std.specs.Int.RustNames.{count_ones, bit_and}
use Rattle.hash_path.specs.Digits.{fan_out}
use Rattle.trie_shape.specs.Tree.{digits_of}
use Rattle.trie_shape.proofs.Bits.{bit_at_clear_others, digits_around, length-digits_of}

none_of_length : {A : Type 0} (xs : List A) → length xs ≡ 0 → xs ≡ []
none_of_length [] e = refl
none_of_length (x ∷ xs) e = absurd (omega (arith, e))

no_ones : count_ones 0 ≡ 0
unfolding count_ones
no_ones = refl

-- no bits below a place
low_zero : (m d : ℕ) → ((i : ℕ) → i < d → bit_at m i ≡ 0) → m % 2 ^ d ≡ 0
low_zero m d none =
    same_from_bits_below d (m % 2 ^ d) 0 (mod_below m (2 ^ d) (pow_pos d)) (pow_pos d)
    (λ i lt. sym (bit_at_cat_low (m / 2 ^ d) d (m % 2 ^ d) i lt) ∙ ap (λ n. bit_at n i) (div-add-mod' m (2 ^ d)) ∙ none i lt ∙ sym (bit_at-zero i))

-- the lowest digit stands first
pub digits_lowest : (m d : ℕ) → m < 2 ^ fan_out → d < fan_out → bit_at m d ≡ 1 → ((i : ℕ) → i < d → bit_at m i ≡ 0) → digits_of m ≡ d ∷ digits_of (bit_and m (bit_not w32 (1 * 2 ^ d % 2 ^ 32)))
digits_lowest m d small below set none =
    let a = digits_around m d below in
    let rest = bit_and m (bit_not w32 (1 * 2 ^ d % 2 ^ 32)) in
    let first : a.before ≡ [] = none_of_length a.before (a.place ∙ ap count_ones (low_zero m d none) ∙ no_ones) in
    let all : digits_of m ≡ d ∷ a.after = a.now ∙ (λ i. first i ++ cond (set i == 1) (d ∷ a.after) a.after) in
    let others : digits_of rest ≡ a.after = a.changed rest (bit_at_clear_others m d small below) ∙ (λ i. first i ++ cond (bit_at_clear_same w32 m d below i == 1) (d ∷ a.after) a.after) in
    all ∙ ap (λ ds. d ∷ ds) (sym others)

-- a digit above all others stands last
pub digits_more : (b d : ℕ) → d < fan_out → b < 2 ^ d → digits_of (bit_or b (1 * 2 ^ d % 2 ^ 32)) ≡ digits_of b ++ d ∷ []
digits_more b d below small =
    let a = digits_around b d below in
    let wider = bit_or b (1 * 2 ^ d % 2 ^ 32) in
    let now : digits_of b ≡ a.before ++ a.after = a.now ∙ ap (λ n. a.before ++ cond (n == 1) (d ∷ a.after) a.after) (bit_at_above b d d small (omega arith)) in
    let long : length (digits_of b) ≡ count_ones b = length-digits_of b (omega (arith, small, pow_below d fan_out below)) in
    let place : length a.before ≡ count_ones b = a.place ∙ ap count_ones (mod-eq_of_lt small) in
    let last : a.after ≡ [] = none_of_length a.after (omega (arith, long, place, ap length now, length-append a.before a.after)) in
    let before : a.before ≡ digits_of b = sym (now ∙ ap (λ ds. a.before ++ ds) last ∙ nothing a.before) in
    let new : digits_of wider ≡ a.before ++ d ∷ a.after = a.changed wider (bit_at_set_other w32 b d below) ∙ ap (λ n. a.before ++ cond (n == 1) (d ∷ a.after) a.after) (bit_at_set_same w32 b d below) in
    new ∙ (λ i. before i ++ d ∷ last i)
  where
    nothing : (ds : List ℕ) → ds ++ [] ≡ ds
    nothing [] = refl
    nothing (x ∷ ds) = ap (λ xs. x ∷ xs) (nothing ds)

-- and is within the next place
pub below_more : (b d : ℕ) → d < fan_out → b < 2 ^ d → bit_or b (1 * 2 ^ d % 2 ^ 32) < 2 ^ (d + 1)
below_more b d below small =
    let power : 1 * 2 ^ d % 2 ^ 32 ≡ 2 ^ d = ap (λ n. n % 2 ^ 32) {x = 1 * 2 ^ d} {y = 2 ^ d} (omega arith) ∙ mod-eq_of_lt (pow_below d 32 below) in
    let next : 2 ^ d < 2 ^ (d + 1) = pow_below d (d + 1) (omega arith) in
    subst (λ n. bit_or b n < 2 ^ (d + 1)) (sym power) (or_lt (d + 1) b (2 ^ d) (omega (arith, small, next)) next)

-- what is within a place is within each that is not below it
pub below_later : (b l d : ℕ) → l ≤ d → b < 2 ^ l → b < 2 ^ d
below_later b l d le small = omega (arith, small, pow-le-pow_right {n = 2} (omega arith) le)
