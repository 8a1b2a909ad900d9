-- Texts each of whose bytes is such; texts of ASCII.
use Prim.Native.Nat.{zero, suc}
use Rattle.std.proofs.Common.{◌≡◌, Bool, true, false, ℕ, ◌+◌, ◌<◌, ◌/◌, ◌%◌, length, List, [], ◌∷◌, ◌++◌, get_or, refl, subst, arith}
use Rattle.std.specs.Prelude.{ℤ, pos, negsuc, IsUtf8, ◌==◌, ◌&&◌, if◌then◌else◌, nat_lt}
use Rattle.std.specs.Fmt.{decimal, signed_decimal, digit_glyph, digits, digits_onto}
use Rattle.std.specs.List.{join_with_byte, list_all, slice_index}
use Rattle.std.proofs.lemmas.Bool.Decides.{nat_tests}
use Rattle.std.proofs.lemmas.Str.{IsUtf8-from_ascii}

-- it is so of each byte
abbrev pub EachByte : (ℕ → Type 0) → List ℕ → Type 0
EachByte P [] = Unit {0}
EachByte P (b ∷ bytes) = P b × EachByte P bytes

spelled : (n : ℕ) → digits_onto 64 10 false n [] ≡ decimal n
unfolding digits
spelled n = refl

module _ (P : ℕ → Type 0) where
  pub each_append : (v w : List ℕ) → EachByte P v → EachByte P w → EachByte P (v ++ w)
  each_append [] w hv hw = hw
  each_append (b ∷ v) w hv hw = (hv.0, each_append v w hv.1 hw)

  module _ (glyph : (d : ℕ) → d < 10 → P (digit_glyph false d)) where
    each_onto : (k n : ℕ) (acc : List ℕ) → EachByte P acc → EachByte P (digits_onto k 10 false n acc)
    each_onto zero n acc h = h
    each_onto (suc k) n acc h =
        let last = digit_glyph false (n % 10) in
        let more : EachByte P (last ∷ acc) = (glyph (n % 10) (omega arith), h) in
        elim (n / 10 == 0) as (λ b. EachByte P (if b then last ∷ acc else digits_onto k 10 false (n / 10) (last ∷ acc))) [
          | true ↦ more
          | false ↦ each_onto k (n / 10) (last ∷ acc) more
        ]

    -- so it is of a number's digits, if it is of all digits
    pub each_digit : (n : ℕ) → EachByte P (decimal n)
    each_digit n = subst (EachByte P) (spelled n) (each_onto 64 n [] tt)

-- ---- ASCII

abbrev pub IsAscii : List ℕ → Type 0
IsAscii bytes = EachByte (λ b. b < 128) bytes

pub ascii_append : (v w : List ℕ) → IsAscii v → IsAscii w → IsAscii (v ++ w)
ascii_append v w hv hw = each_append (λ b. b < 128) v w hv hw

glyph_ascii : (b : Bool) (d : ℕ) → d < 10 → (if b then 48 + d else (if false then 55 + d else 87 + d)) < 128
glyph_ascii true d below = omega arith
glyph_ascii false d below = omega arith

pub ascii_decimal : (n : ℕ) → IsAscii (decimal n)
ascii_decimal n = each_digit (λ b. b < 128) (λ d below. glyph_ascii (nat_lt d 10) d below) n

pub ascii_signed : (z : ℤ) → IsAscii (signed_decimal z)
ascii_signed (pos n) = ascii_decimal n
ascii_signed (negsuc n) = (omega arith, ascii_decimal (suc n))

both : (a b : Bool) → (a && b) ≡ true → (a ≡ true) × (b ≡ true)
both true b e = (refl, e)
both false b e = cc

-- a literal's letters are looked at one by one
pub ascii_literal : (w : List ℕ) → list_all (λ b. nat_lt b 128) w ≡ true → IsAscii w
ascii_literal [] e = tt
ascii_literal (b ∷ w) e =
    let p = both (nat_lt b 128) (list_all (λ b. nat_lt b 128) w) e in
    let below : b < 128 = grind (arith, nat_tests) in
    (below, ascii_literal w p.1)

-- behind a literal
pub ascii_behind : (front w : List ℕ) → list_all (λ b. nat_lt b 128) front ≡ true → IsAscii w → IsAscii (front ++ w)
ascii_behind front w e h = ascii_append front w (ascii_literal front e) h

pub ascii_places : (w : List ℕ) → ((k : ℕ) → k < length w → get_or w k 0 < 128) → IsAscii w
ascii_places [] h = tt
ascii_places (b ∷ w) h = (h 0 (omega arith), ascii_places w (λ k below. h (suc k) (omega arith)))

-- each of the words is ASCII
abbrev pub AreAscii : List (List ℕ) → Type 0
AreAscii [] = Unit {0}
AreAscii (w ∷ ws) = IsAscii w × AreAscii ws

pub ascii_joined : (ws : List (List ℕ)) → AreAscii ws → IsAscii (join_with_byte 32 ws)
ascii_joined [] h = tt
ascii_joined (w ∷ []) h = h.0
ascii_joined (w ∷ v ∷ ws) h = ascii_append w _ h.0 (omega arith, ascii_joined (v ∷ ws) h.1)

at_place : (w : List ℕ) → IsAscii w → (k : ℕ) → slice_index w k < 128
at_place [] h k = omega arith
at_place (b ∷ w) h zero = h.0
at_place (b ∷ w) h (suc k) = at_place w h.1 k

-- ASCII is UTF-8
pub ascii_text : (w : List ℕ) → IsAscii w → IsUtf8 w
ascii_text w h = IsUtf8-from_ascii w (at_place w h)
