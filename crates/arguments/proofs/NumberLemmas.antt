-- What `decimal` and `signed_decimal` write, and what `parse` reads.
use Prim.Native.Nat.{zero, suc}
use Rattle.std.proofs.Common.{◌≡◌, ◌≢◌, ℕ, ◌<◌, ◌≤◌, ◌^◌, ◌∙◌, ◌⊎◌, inl, inr, List, [], ◌∷◌, length, drop, get_or, refl, ap, sym, arith, Result, Ok, Err}
use Rattle.std.specs.Prelude.{ℤ, pos, negsuc, neg_ℤ, FitsSigned, MatchOption}
use Rattle.std.specs.Int.{w64}
use Rattle.std.specs.Str.{IsUtf8}
use Rattle.std.specs.Str.Parse.{AllDigits, digits_value, ParsesUnsigned, ParsesSigned}
use Rattle.std.specs.Result.{result_ok}
use Rattle.std.specs.Fmt.{decimal, signed_decimal}
use Rattle.std.proofs.lemmas.Fmt.{decimal_is_IsNumeral, first_decimal, decimal_digit, decimal-digits_value, parse-decimal, parse-signed_decimal, IsAscii-decimal, IsAscii-signed}
use Rattle.std.proofs.lemmas.Str.{IsUtf8-from_ascii}
use Rattle.std.proofs.lemmas.Str.Parse.{IsNumeralModel, numerals_by_value, tells_digits, digit_at, parse_plain, parse_signed_plain, parse_signed_minus}
use Rattle.arguments.specs.Numbers.{StartsNumber, StartsNegative}

own : IsNumeralModel (AllDigits 10) (digits_value 10)
own = numerals_by_value (AllDigits 10) tells_digits

pub decimal_starts : (n : ℕ) → n < 2 ^ 64 → StartsNumber (decimal n)
decimal_starts n h =
    let p = decimal_is_IsNumeral n h in
    let range = digit_at (decimal n) 0 p.0.1 p.0.0 in
    record { some = p.0.0; least = range.0; most = range.1; alone = alone n h }
  where
    alone : (n : ℕ) → n < 2 ^ 64 → get_or (decimal n) 0 0 ≡ 48 → length (decimal n) ≡ 1
    alone zero h e = ap length (decimal_digit 0 (omega arith))
    alone (suc n) h e = absurd (omega (arith, first_decimal (suc n) (omega arith) h))

pub number_utf8 : (n : ℕ) → n < 2 ^ 64 → IsUtf8 (decimal n)
number_utf8 n h = IsUtf8-from_ascii (decimal n) (IsAscii-decimal n h)

-- what `parse` gives where the field begins as a number
pub number_read : {E : Type 0} (bs : List ℕ) (r : Result ℕ E) → ParsesUnsigned 32 10 bs r → StartsNumber bs → MatchOption (result_ok r) ((n : ℕ) → n < 2 ^ 32 → bs ≢ decimal n) (λ n. bs ≡ decimal n)
number_read {E} bs (Ok x) h s =
    let least : 48 ≤ get_or bs 0 0 = s.least in
    let plain : get_or bs 0 0 ≢ 43 = λ e. omega arith in
    let q = parse_plain own {E = E} 32 bs (Ok x) h plain in
    let bound : digits_value 10 bs < 2 ^ 64 = omega (arith, q.0.2) in
    let back : decimal (digits_value 10 bs) ≡ bs = decimal-digits_value own bs q.0.0 s.some s.alone bound in
    sym back ∙ ap decimal (sym q.1)
number_read {E} bs (Err e) h s = λ n below is. let fails : E → Result ℕ E = λ e. Err e in let bad : fails e ≡ Ok n = parse-decimal {E = E} 32 n bs (Err e) below (omega arith) is h in cc

pub value_starts : (z : ℤ) → FitsSigned w64 z → StartsNumber (signed_decimal z) ⊎ StartsNegative (signed_decimal z)
value_starts (pos n) fits = inl (decimal_starts n (small n fits))
  where
    small : (n : ℕ) → FitsSigned w64 (pos n) → n < 2 ^ 64
    small n fits = omega (arith, fits.sfits)
value_starts (negsuc n) fits = inr (record { minus = refl; number = decimal_starts (suc n) (small n fits); other = λ e. other n (small n fits) e })
  where
    small : (n : ℕ) → FitsSigned w64 (negsuc n) → suc n < 2 ^ 64
    small n fits = let h : n < 2 ^ 63 = fits.sfits in omega arith

    other : (n : ℕ) → suc n < 2 ^ 64 → get_or (decimal (suc n)) 0 0 ≡ 48 → ⊥
    other n h e = absurd (omega (arith, first_decimal (suc n) (omega arith) h))

pub value_utf8 : (z : ℤ) → FitsSigned w64 z → IsUtf8 (signed_decimal z)
value_utf8 z fits = IsUtf8-from_ascii (signed_decimal z) (IsAscii-signed z fits.sfits)

negative : (bs : List ℕ) (m : ℕ) → decimal m ≡ drop 1 bs → get_or bs 0 0 ≡ 45 → get_or (drop 1 bs) 0 0 ≢ 48 → bs ≡ signed_decimal (neg_ℤ (pos m))
negative [] m back minus other = absurd (omega arith)
negative (b ∷ bs) zero back minus other = absurd (other (ap (λ t. get_or t 0 0) (sym back ∙ decimal_digit 0 (omega arith))))
negative (b ∷ bs) (suc m) back minus other = let e : b ≡ 45 = minus in rw e (ap (λ t. 45 ∷ t) (sym back))

pub value_read : {E : Type 0} (bs : List ℕ) (r : Result ℤ E) → ParsesSigned w64 10 bs r → StartsNumber bs ⊎ StartsNegative bs → MatchOption (result_ok r) ((z : ℤ) → FitsSigned w64 z → bs ≢ signed_decimal z) (λ z. bs ≡ signed_decimal z)
value_read {E} bs (Ok x) h (inl s) =
    let least : 48 ≤ get_or bs 0 0 = s.least in
    let q = parse_signed_plain own {E = E} w64 bs (Ok x) h (λ e. omega arith) (λ e. omega arith) in
    let bound : digits_value 10 bs < 2 ^ 64 = omega (arith, q.0.2) in
    let back : decimal (digits_value 10 bs) ≡ bs = decimal-digits_value own bs q.0.0 s.some s.alone bound in
    sym back ∙ ap signed_decimal (sym q.1)
value_read {E} bs (Ok x) h (inr s) =
    let q = parse_signed_minus own {E = E} w64 bs (Ok x) h s.minus in
    let number = s.number in
    let bound : digits_value 10 (drop 1 bs) < 2 ^ 64 = omega (arith, q.0.2) in
    let back : decimal (digits_value 10 (drop 1 bs)) ≡ drop 1 bs = decimal-digits_value own (drop 1 bs) q.0.0 number.some number.alone bound in
    negative bs (digits_value 10 (drop 1 bs)) back s.minus s.other ∙ ap signed_decimal (sym q.1)
value_read {E} bs (Err e) h s = λ z fits is. let fails : E → Result ℤ E = λ e. Err e in let bad : fails e ≡ Ok z = parse-signed_decimal {E = E} w64 z bs (Err e) fits fits.sfits is h in cc
