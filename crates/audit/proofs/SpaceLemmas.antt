-- Texts parted at their last space.
use Prim.Native.Nat.{suc}
use Rattle.std.proofs.Common.{◌≡◌, ◌≢◌, Bool, true, false, ℕ, ◌+◌, ◌∙◌, length, List, [], ◌∷◌, ◌++◌, refl, sym, ap, subst, arith, append_assoc}
use Rattle.std.specs.Prelude.{ℤ, pos, negsuc, if◌then◌else◌, nat_lt}
use Rattle.std.specs.Fmt.{decimal, signed_decimal, digits}
use Rattle.audit.proofs.ByteLemmas.{EachByte, each_digit}
use Rattle.audit.specs.ReplyParts.{IsSpaceless, IsFront, HasNoFront}

pub space_inside : (xs ys : List ℕ) → IsSpaceless (xs ++ 32 ∷ ys) → ⊥
space_inside [] ys h = h.0 refl
space_inside (x ∷ xs) ys h = space_inside xs ys h.1

-- what stands before the last space is one text
pub same_front : (xs ys ps qs : List ℕ) → IsSpaceless ps → IsSpaceless qs → xs ++ 32 ∷ ps ≡ ys ++ 32 ∷ qs → xs ≡ ys
same_front [] [] ps qs hp hq e = refl
same_front [] (y ∷ ys) ps qs hp hq e = let rest : ps ≡ ys ++ 32 ∷ qs = cc in absurd (space_inside ys qs (subst IsSpaceless rest hp))
same_front (x ∷ xs) [] ps qs hp hq e = let rest : xs ++ 32 ∷ ps ≡ qs = cc in absurd (space_inside xs ps (subst IsSpaceless (sym rest) hq))
same_front (x ∷ xs) (y ∷ ys) ps qs hp hq e =
    let head : x ≡ y = cc in
    let rest : xs ++ 32 ∷ ps ≡ ys ++ 32 ∷ qs = cc in
    let tail : xs ≡ ys = same_front xs ys ps qs hp hq rest in
    cc

-- ---- a number's digits

glyph_below : (b : Bool) (d : ℕ) → (if b then 48 + d else (if false then 55 + d else 87 + d)) ≢ 32
glyph_below true d e = omega arith
glyph_below false d e = omega arith

spaceless : (w : List ℕ) → EachByte (λ b. b ≢ 32) w → IsSpaceless w
spaceless [] h = tt
spaceless (b ∷ w) h = (h.0, spaceless w h.1)

decimal_spaceless : (n : ℕ) → IsSpaceless (decimal n)
decimal_spaceless n = spaceless (decimal n) (each_digit (λ b. b ≢ 32) (λ d below. glyph_below (nat_lt d 10) d) n)

pub signed_spaceless : (z : ℤ) → IsSpaceless (signed_decimal z)
signed_spaceless (pos n) = decimal_spaceless n
signed_spaceless (negsuc n) = ((λ e. omega arith), decimal_spaceless (suc n))

-- ---- bytes that were passed from the end

-- no space was passed so far
pub record HasPassed (bytes left : List ℕ) : Type 0 where
  pub passed : List ℕ
  pub spaceless : IsSpaceless passed
  pub all : bytes ≡ left ++ passed

pub none_passed : (bytes left : List ℕ) → left ≡ bytes → HasPassed bytes left
none_passed bytes left same = record { passed = []; spaceless = tt; all = rw same (nil bytes) }
  where
    nil : (xs : List ℕ) → xs ≡ xs ++ []
    nil [] = refl
    nil (x ∷ xs) = ap (λ ys. x ∷ ys) (nil xs)

pub one_passed : (bytes left front : List ℕ) (last : ℕ) → HasPassed bytes left → left ≡ front ++ last ∷ [] → last ≢ 32 → HasPassed bytes front
one_passed bytes left front last h is other = record {
  passed = last ∷ h.passed;
  spaceless = (other, h.spaceless);
  all = h.all ∙ ap (λ xs. xs ++ h.passed) is ∙ append_assoc front (last ∷ []) h.passed;
}

pub front_found : (bytes left front : List ℕ) (last : ℕ) → HasPassed bytes left → left ≡ front ++ last ∷ [] → last ≡ 32 → IsFront bytes front
front_found bytes left front last h is space before behind less parted =
    let all : bytes ≡ front ++ 32 ∷ h.passed = h.all ∙ ap (λ xs. xs ++ h.passed) is ∙ append_assoc front (last ∷ []) h.passed ∙ ap (λ b. front ++ b ∷ h.passed) space in
    same_front before front behind h.passed less h.spaceless (sym parted ∙ all)

nil_of : (xs : List ℕ) → length xs ≡ 0 → xs ≡ []
nil_of [] e = refl
nil_of (x ∷ xs) e = absurd (omega arith)

pub no_front : (bytes left : List ℕ) → HasPassed bytes left → length left ≡ 0 → HasNoFront bytes
no_front bytes left h none before behind less parted =
    let all : bytes ≡ h.passed = h.all ∙ ap (λ xs. xs ++ h.passed) (nil_of left none) in
    space_inside before behind (subst IsSpaceless (sym all ∙ parted) h.spaceless)
