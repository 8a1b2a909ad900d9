-- Where its parts take little room, so does a pair, a triple, a quadruple and an option.
use Rattle.std.proofs.Common.{ℕ, ◌+◌, ◌*◌, ◌≤◌, arith, subst, sym}
use prog.Memory.{size, align, aligns, alignss, up, end_of, endss}
use prog.Align.{align_w, align-bytes, aligns_w, aligns-bytes, alignss_w, alignss-bytes}
use mir.Syntax.{Ty, Tys, tnil, tcons, Tyss, ttnil, ttcons, Width, w8, w16, w32, w64, w128}
use mir.Val.{bytes}
use denote.Memory.{lone}
use denote.RattleType.{RattleType}
use Rattle.slots.specs.Small.{IsHalf, IsQuarter}

-- what ends within so many sixteens does so rounded up, too
up_width : (w : Width) (e n : ℕ) → e ≤ 16 * n → up (bytes w) e ≤ 16 * n
up_width w8 e n h = omega (arith, h)
up_width w16 e n h = omega (arith, h)
up_width w32 e n h = omega (arith, h)
up_width w64 e n h = omega (arith, h)
up_width w128 e n h = omega (arith, h)

width_most : (w : Width) → bytes w ≤ 16
width_most w8 = omega arith
width_most w16 = omega arith
width_most w32 = omega arith
width_most w64 = omega arith
width_most w128 = omega arith

up_within : (τ : Ty) (e n : ℕ) → e ≤ 16 * n → up (align τ) e ≤ 16 * n
up_within τ e n h = subst (λ k. up k e ≤ 16 * n) (sym (align-bytes τ)) (up_width (align_w τ) e n h)

-- a part of so many sixteens ends within as many more
part_within : (τ : Ty) (e n m : ℕ) → e ≤ 16 * n → size τ ≤ 16 * m → up (align τ) e + size τ ≤ 16 * n + 16 * m
part_within τ e n m h s = omega (arith, up_within τ e n h, s)

parts_within : (τs : Tys) (e n : ℕ) → e ≤ 16 * n → up (aligns τs) e ≤ 16 * n
parts_within τs e n h = subst (λ k. up k e ≤ 16 * n) (sym (aligns-bytes τs)) (up_width (aligns_w τs) e n h)

parts_align : (τs : Tys) → aligns τs ≤ 16
parts_align τs = subst (λ k. k ≤ 16) (sym (aligns-bytes τs)) (width_most (aligns_w τs))

variants_within : (τss : Tyss) (e n : ℕ) → e ≤ 16 * n → up (alignss τss) e ≤ 16 * n
variants_within τss e n h = subst (λ k. up k e ≤ 16 * n) (sym (alignss-bytes τss)) (up_width (alignss_w τss) e n h)

variants_align : (τss : Tyss) → alignss τss ≤ 16
variants_align τss = subst (λ k. k ≤ 16) (sym (alignss-bytes τss)) (width_most (alignss_w τss))

-- a pair of halves
module _ (A B : RattleType) where
  abbrev pub two : Tys
  two = tcons (lone A.mir) (tcons (lone B.mir) tnil)

  -- the first ends within so many sixteens
  first_end : (m : ℕ) → size (lone A.mir) ≤ 16 * m → up (align (lone A.mir)) 0 + size (lone A.mir) ≤ 16 * m
  first_end m a = omega (arith, part_within (lone A.mir) 0 0 m (omega arith) a)

  two_end : (m : ℕ) → size (lone A.mir) ≤ 16 * m → size (lone B.mir) ≤ 16 * m → end_of 0 two ≤ 16 * (m + m)
  two_end m a b = omega (arith, part_within (lone B.mir) (up (align (lone A.mir)) 0 + size (lone A.mir)) m m (first_end m a) b)

  pub pair_small : IsHalf A → IsHalf B → (up (aligns two) (end_of 0 two) ≤ 64) × (aligns two ≤ 16)
  pair_small a b = (parts_within two (end_of 0 two) 4 (two_end 2 a b), parts_align two)

  pub pair_half : IsQuarter A → IsQuarter B → up (aligns two) (end_of 0 two) ≤ 32
  pair_half a b = parts_within two (end_of 0 two) 2 (two_end 1 a b)

  -- with a third and a fourth part
  module _ (C : RattleType) where
    abbrev pub three : Tys
    three = tcons (lone A.mir) (tcons (lone B.mir) (tcons (lone C.mir) tnil))

    three_end : IsQuarter A → IsQuarter B → IsQuarter C → end_of 0 three ≤ 16 * 3
    three_end a b c = part_within (lone C.mir) (end_of 0 two) 2 1 (two_end 1 a b) c

    pub triple_small : IsQuarter A → IsQuarter B → IsQuarter C → (up (aligns three) (end_of 0 three) ≤ 64) × (aligns three ≤ 16)
    triple_small a b c = (omega (arith, parts_within three (end_of 0 three) 3 (three_end a b c)), parts_align three)

    module _ (D : RattleType) where
      abbrev pub four : Tys
      four = tcons (lone A.mir) (tcons (lone B.mir) (tcons (lone C.mir) (tcons (lone D.mir) tnil)))

      pub quadruple_small : IsQuarter A → IsQuarter B → IsQuarter C → IsQuarter D → (up (aligns four) (end_of 0 four) ≤ 64) × (aligns four ≤ 16)
      quadruple_small a b c d = (parts_within four (end_of 0 four) 4 (part_within (lone D.mir) (end_of 0 three) 3 1 (three_end a b c) d), parts_align four)

-- an option has a tag of a byte before what it has
module _ (T : RattleType) where
  abbrev pub one : Tys
  one = tcons (lone T.mir) tnil

  abbrev pub maybe : Tyss
  maybe = ttcons tnil (ttcons one ttnil)

  maybe_end : (m : ℕ) → size (lone T.mir) ≤ 16 * m → endss maybe ≤ 16 * (1 + m)
  maybe_end m t = omega (arith, part_within (lone T.mir) 1 1 m (omega arith) t)

  pub option_small : IsHalf T → (up (alignss maybe) (endss maybe) ≤ 64) × (alignss maybe ≤ 16)
  option_small t = (omega (arith, variants_within maybe (endss maybe) 3 (maybe_end 2 t)), variants_align maybe)

  pub option_half : IsQuarter T → up (alignss maybe) (endss maybe) ≤ 32
  option_half t = variants_within maybe (endss maybe) 2 (maybe_end 1 t)
