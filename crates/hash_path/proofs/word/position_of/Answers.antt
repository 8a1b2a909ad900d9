use Rattle.std.proofs.Common.{◌≡◌, ◌<◌, ℕ, ◌+◌, ◌*◌, ◌^◌, arith, ap, sym, ◌∙◌}
use Rattle.hash_path.specs.Digits.{word_bits, word_digits, weight, position, digit}
use Rattle.hash_path.proofs.Positions.{placed, placed-step, placed-below}
use Rattle.hash_path.proofs.word.position_of.Goals as goal

-- the digit at a level, counted with those below it
counted : (level w d u : ℕ) → d ≡ digit w level → u ≡ weight level → placed word_bits level w + d * u ≡ placed word_bits (level + 1) w
counted level w d u is_digit is_weight =
    ap (λ n. placed word_bits level w + n * u) is_digit ∙ ap (λ n. placed word_bits level w + digit w level * n) is_weight ∙
    sym (placed-step word_bits level w)

-- that sum is a position, and so no larger than a word
counted-below : (level w d u : ℕ) → d ≡ digit w level → u ≡ weight level → w < 2 ^ word_bits → placed word_bits level w + d * u < 2 ^ word_bits
counted-below level w d u is_digit is_weight small =
    omega (arith, counted level w d u is_digit is_weight, placed-below word_bits (level + 1) w small)

pub overflow_mul-position : goal.overflow_mul-position
overflow_mul-position c =
    let small : c.args.word < 2 ^ word_bits = omega (arith, c.ranges.word) in
    omega (arith, counted-below c.loop-level.level c.args.word _ _ (c.from.ensures ∙ c.digit.ensures.value) c.weight_at.ensures small)

pub overflow_add-position : goal.overflow_add-position
overflow_add-position c =
    let small : c.args.word < 2 ^ word_bits = omega (arith, c.ranges.word) in
    omega (arith, counted-below c.loop-level.level c.args.word _ _ (c.from.ensures ∙ c.digit.ensures.value) c.weight_at.ensures small, c.loop-level.invariant)

pub loop-level-preserved : goal.loop-level-preserved
loop-level-preserved c =
    omega (arith, counted c.loop-level.level c.args.word _ _ (c.from.ensures ∙ c.digit.ensures.value) c.weight_at.ensures, c.loop-level.invariant)

pub returns : goal.returns
unfolding position
returns c =
    let whole : c.loop-level.level ≡ word_digits = omega (arith, c.loop-level-test.false, c.loop-level.auto.level-end) in
    omega (arith, c.loop-level.invariant, ap (λ n. placed word_bits n c.args.word) whole)
