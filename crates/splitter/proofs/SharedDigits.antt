-- The digits that words share, by their least position.
use Rattle.std.proofs.Common.{◌≡◌, ℕ, zero, suc, ◌+◌, ◌-◌, ◌*◌, ◌/◌, ◌%◌, ◌^◌, ◌<◌, ◌≤◌, refl, sym, ap, ◌∙◌, subst, arith}
use Rattle.std.proofs.Math.Nat.{add-mul, mul_assoc}
use Rattle.std.proofs.lemmas.Nat.{pow-add, div-mul-add}
use Rattle.hash_path.specs.Digits.{word_bits, last_level, digit_bits, fan_out, digit, digits_after, lowest, breadth}
use Rattle.hash_path.specs.Laws.{DigitInterval, IntervalStep}

-- each level but the last has a whole digit
breadth_of_digit : (level : ℕ) → level < last_level → breadth word_bits level ≡ fan_out * breadth word_bits (level + 1)
breadth_of_digit level lt =
    let next : ℕ = word_bits - digit_bits * (level + 1) in
    let bits : word_bits - digit_bits * level ≡ digit_bits + next = omega (arith, lt) in
    ap (λ n. 2 ^ n) bits ∙ pow-add 2 digit_bits next

module _ (step : IntervalStep) (w : ℕ) where
  abbrev low : ℕ → ℕ
  low level = lowest (digits_after 0 level w)

  one_more : (level q : ℕ) → level < last_level → low level ≡ q * breadth word_bits level → low (level + 1) ≡ (q * fan_out + digit w level) * breadth word_bits (level + 1)
  one_more level q lt is =
      let b : ℕ = breadth word_bits (level + 1) in
      let d : ℕ = digit w level in
      let wide : q * breadth word_bits level ≡ q * fan_out * b = ap (λ n. q * n) (breadth_of_digit level lt) ∙ sym (mul_assoc q fan_out b) in
      step level w ∙ ap (λ n. n + d * b) (is ∙ wide) ∙ sym (add-mul (q * fan_out) d b)

  -- the least position of words that share digits is a multiple of how many positions there are
  multiple : (level : ℕ) → level < last_level → (q : ℕ) × (low level ≡ q * breadth word_bits level)
  multiple zero lt = (0, refl)
  multiple (suc level) lt =
      let h = multiple level (omega arith) in
      let next : level + 1 ≡ suc level = omega arith in
      subst (λ n. (q : ℕ) × (low n ≡ q * breadth word_bits n)) next (h.0 * fan_out + digit w level, one_more level h.0 (omega arith) h.1)

  rises : (level n : ℕ) → low level ≤ low (level + n)
  rises level zero = let same : level + 0 ≡ level = omega arith in omega (arith, ap low same)
  rises level (suc n) = let next : level + n + 1 ≡ level + suc n = omega arith in omega (arith, rises level n, step (level + n) w, ap low next)

  -- the digit at a level above
  pub digit_of_base : DigitInterval → w < 2 ^ word_bits → (level deep base : ℕ) → level < deep → deep ≤ last_level → low deep ≡ base → digit w level ≡ base / breadth word_bits (level + 1) % fan_out
  digit_of_base interval small level deep base lt last same =
      let b : ℕ = breadth word_bits (level + 1) in
      let d : ℕ = digit w level in
      let h = multiple level (omega arith) in
      let next : low (level + 1) ≡ (h.0 * fan_out + d) * b = one_more level h.0 (omega arith) h.1 in
      let whole : level + 1 + (deep - (level + 1)) ≡ deep = omega arith in
      let above = rises (level + 1) (deep - (level + 1)) in
      let from : low (level + 1) ≤ low deep = subst (λ n. low (level + 1) ≤ low n) whole above in
      let here = (interval (level + 1) w w (omega arith) small small).0 refl in
      let there = (interval deep w w (omega arith) small small).0 refl in
      let left : ℕ = base - low (level + 1) in
      let within : left < b = omega (arith, here.1, there.0, same) in
      let is : base ≡ (h.0 * fan_out + d) * b + left = omega (arith, from, next, same) in
      let below : d < fan_out = omega arith in
      let back : d ≡ (h.0 * fan_out + d) % fan_out = omega (arith, below) in
      back ∙ ap (λ n. n % fan_out) (sym (ap (λ n. n / b) is ∙ div-mul-add (h.0 * fan_out + d) b left within))
