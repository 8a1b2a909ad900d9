-- The laws at the width of a path word.
use Rattle.std.proofs.Common.{◌≡◌, ℕ, ◌≤◌, List, length, take, nat_eq, true, refl, sym, ◌∙◌, ap, arith, length-take}
use Rattle.std.proofs.lemmas.Slice.Eq.{bytes_eq-Decides}
use Rattle.std.specs.List.{starts_with}
use Rattle.hash_path.specs.Digits.{word_bits, word_digits, digits_after, spelled, word_of, position, lowest}
use Rattle.hash_path.specs.Laws.{PositionIsBelow, PositionIsInjective, PositionIsOnto, PositionOrder, DigitOrder, DigitInterval, PrefixInterval, IntervalStep, WordOfSpelled, SpelledIsInjective, SpelledPrefix, SharedDigits}
use Rattle.hash_path.proofs.Weights.{weighed-below, weighed-order}
use Rattle.hash_path.proofs.Spelling.{digits_after-fit, take-digits_after, each-digit, all-digits}
use Rattle.hash_path.proofs.Positions.{placed-step, placed-within, within-placed, placed-less, word_of-digits, placed-onto}

pub position-below : PositionIsBelow
unfolding position
position-below w small = weighed-below word_bits 0 (digits_after 0 word_digits w) (digits_after-fit word_bits 0 word_digits w small)

pub word_of-spelled : WordOfSpelled
word_of-spelled w small = word_of-digits word_bits word_digits w (omega arith) small

pub spelled-injective : SpelledIsInjective
spelled-injective w v small less same = sym (word_of-spelled w small) ∙ ap word_of same ∙ word_of-spelled v less

pub position-onto : PositionIsOnto
unfolding position
position-onto p small = placed-onto word_bits word_digits p (omega arith) small

pub position-interval : DigitInterval
unfolding position
position-interval level w v deep small less =
    (placed-within word_bits word_digits level w v deep less, λ h. within-placed word_bits word_digits level w v deep small less h.0 h.1)

pub position-injective : PositionIsInjective
unfolding position
position-injective w v small less same =
    spelled-injective w v small less
    (within-placed word_bits word_digits word_digits v w (omega arith) less small (omega (arith, same)) (omega (arith, same)))

pub position-order : PositionOrder
unfolding position
position-order w v small less =
    weighed-order word_bits 0 (digits_after 0 word_digits w) (digits_after 0 word_digits v) refl (digits_after-fit word_bits 0 word_digits w small)
    (digits_after-fit word_bits 0 word_digits v less)

pub position-digit_order : DigitOrder
unfolding position
position-digit_order level w v deep small less same below = placed-less word_bits word_digits level w v deep small less same below

pub lowest-step : IntervalStep
lowest-step level w = placed-step word_bits level w

pub spelled-prefix : SpelledPrefix
spelled-prefix level w short = take-digits_after 0 level word_digits w short

pub shared-digits : SharedDigits
shared-digits level w v = (λ same i h. each-digit level w v i same h, λ same. all-digits 0 level w v (λ n h. same n (omega (arith, h))))

-- a word begins with a prefix where the digits below the level of the prefix's length are the prefix
starts-with : (p : List ℕ) (w : ℕ) → starts_with nat_eq (spelled w) p ≡ true → (length p ≤ word_digits) × (digits_after 0 (length p) w ≡ p)
starts-with p w begins =
    let front = (bytes_eq-Decides p (take (length p) (digits_after 0 word_digits w))).0 begins in
    let short : length p ≤ word_digits =
    omega (arith, ap length front, length-take (length p) (digits_after 0 word_digits w)) in
    (short, sym (take-digits_after 0 (length p) word_digits w short) ∙ sym front)

digits-start : (p : List ℕ) (w : ℕ) → length p ≤ word_digits → digits_after 0 (length p) w ≡ p → starts_with nat_eq (spelled w) p ≡ true
digits-start p w short same =
    (bytes_eq-Decides p (take (length p) (digits_after 0 word_digits w))).1
    (sym same ∙ sym (take-digits_after 0 (length p) word_digits w short))

pub prefix-interval : PrefixInterval
prefix-interval p w v small less begins =
    let front = starts-with p w begins in
    let level : ℕ = length p in
    let interval = position-interval level w v front.0 small less in
    let low = ap lowest front.1 in (
      λ h.
          let inside = interval.0 ((starts-with p v h).1 ∙ sym front.1) in
          (omega (arith, inside.0, low), omega (arith, inside.1, low)),
      λ h.
          digits-start p v front.0 (interval.1 (omega (arith, h.0, low), omega (arith, h.1, low)) ∙ front.1),
    )
