-- A word and the list of its digits.
use Rattle.std.proofs.Common.{◌≡◌, ℕ, zero, suc, ◌+◌, ◌-◌, ◌*◌, ◌/◌, ◌%◌, ◌^◌, ◌<◌, ◌≤◌, List, [], ◌∷◌, ◌++◌, get_or, length, take, refl, sym, ◌∙◌, ap, arith, inl, inr}
use Rattle.std.proofs.lemmas.Nat.{pow_pos, shr-shr, shr_below, mod-pow-add, mod_below, same_from_place, div-add-mod'}
use Rattle.std.proofs.lemmas.Bool.{cases_lt}
use Rattle.std.proofs.Math.Nat.{pow-le-pow_right, mod-le}
use Rattle.hash_path.specs.Digits.{digit_bits, fan_out, breadth, digit, digits_after, word_of}
use Rattle.hash_path.proofs.Weights.{kinds, Fits, fits-below, fits-small, breadth-none, breadth-whole}

pub length-digits_after : (level count w : ℕ) → length (digits_after level count w) ≡ count
length-digits_after level zero w = refl
length-digits_after level (suc count) w = ap (λ n. suc n) (length-digits_after (level + 1) count w)

-- what is left of a word above a level, one level further up
pub shift-next : (w level : ℕ) → w / 2 ^ (digit_bits * level) / fan_out ≡ w / 2 ^ (digit_bits * (level + 1))
shift-next w level =
    let more : digit_bits * level + digit_bits ≡ digit_bits * (level + 1) = omega arith in
    shr-shr w (digit_bits * level) digit_bits ∙ ap (λ n. w / 2 ^ n) more

-- a word's digits spell what is left of it above their first level
pub word_of-digits_after : (level count w : ℕ) →
    word_of (digits_after level count w) ≡ w / 2 ^ (digit_bits * level) % 2 ^ (digit_bits * count)
word_of-digits_after level zero w = omega (arith, mod_below (w / 2 ^ (digit_bits * level)) 1 (omega arith))
word_of-digits_after level (suc count) w =
    let here : ℕ = w / 2 ^ (digit_bits * level) in
    let rest = word_of-digits_after (level + 1) count w in
    let next : here / fan_out % 2 ^ (digit_bits * count) ≡ w / 2 ^ (digit_bits * (level + 1)) % 2 ^ (digit_bits * count) = ap (λ n. n % 2 ^ (digit_bits * count)) (shift-next w level) in
    let split = mod-pow-add here (digit_bits * count) digit_bits in
    let exponent : 2 ^ (digit_bits * count + digit_bits) ≡ 2 ^ (digit_bits * suc count) = ap (λ n. 2 ^ n) (omega arith) in
    let whole : here % 2 ^ (digit_bits * count + digit_bits) ≡ here % 2 ^ (digit_bits * suc count) = ap (λ n. here % n) exponent in
    omega (arith, rest, next, split, whole)

-- a short word is short above each level
pub shift-below : (bits w k : ℕ) → w < 2 ^ bits → w / 2 ^ k < 2 ^ (bits - k)
shift-below bits w k small =
    let wide : 2 ^ bits ≤ 2 ^ (bits - k + k) = pow-le-pow_right (omega arith) (omega arith) in
    shr_below w (bits - k) k (omega (arith, wide, small))

pub digit-below : (bits level w : ℕ) → w < 2 ^ bits → digit w level < kinds bits level
digit-below bits level w small = elim (cases_lt bits (digit_bits * (level + 1))) [
  | inl above ↦
      let rest : bits - digit_bits * level ≡ bits - digit_bits * level - (bits - digit_bits * (level + 1)) = omega (arith, above) in
      let count : 2 ^ (bits - digit_bits * level) ≡ kinds bits level = ap (λ n. 2 ^ n) rest in
      omega (arith, count, shift-below bits w (digit_bits * level) small, mod-le (w / 2 ^ (digit_bits * level)) fan_out)
  | inr below ↦
      let whole : digit_bits ≡ bits - digit_bits * level - (bits - digit_bits * (level + 1)) = omega (arith, below) in
      let count : fan_out ≡ kinds bits level = ap (λ n. 2 ^ n) whole in
      omega (arith, count, mod_below (w / 2 ^ (digit_bits * level)) fan_out (omega arith))
]

pub digits_after-fit : (bits level count w : ℕ) → w < 2 ^ bits → Fits bits level (digits_after level count w)
digits_after-fit bits level zero w small = tt
digits_after-fit bits level (suc count) w small =
    (fits-below bits level (digit w level) (digit-below bits level w small), digits_after-fit bits (level + 1) count w small)

-- the digits from a level on are those of a number that agrees with the word above that level
pub digits_after-word_of : (bits level : ℕ) (ds : List ℕ) (w : ℕ) → Fits bits level ds → w / 2 ^ (digit_bits * level) ≡ word_of ds →
    digits_after level (length ds) w ≡ ds
digits_after-word_of bits level [] w f e = refl
digits_after-word_of bits level (d ∷ ds) w f e =
    let small = fits-small bits level d f.0 in
    let split = same_from_place (word_of ds) d (w / 2 ^ (digit_bits * level) / fan_out) (digit w level) fan_out small (mod_below (w / 2 ^ (digit_bits * level)) fan_out (omega arith))
    (omega (arith, e, div-add-mod' (w / 2 ^ (digit_bits * level)) fan_out)) in
    let rest = digits_after-word_of bits (level + 1) ds w f.1 (sym (shift-next w level) ∙ sym split.0) in
    ap (λ n. n ∷ digits_after (level + 1) (length ds) w) (sym split.1) ∙ ap (λ ys. d ∷ ys) rest

pub word_of-below : (bits level : ℕ) (ds : List ℕ) → Fits bits level ds → word_of ds < breadth bits level
word_of-below bits level [] f = pow_pos (bits - digit_bits * level)
word_of-below bits level (d ∷ ds) f =
    let rest = word_of-below bits (level + 1) ds f.1 in
    let small = fits-small bits level d f.0 in
    elim (cases_lt bits (digit_bits * (level + 1))) [
      | inl last ↦
          let none = breadth-none bits (level + 1) (omega (arith, last)) in
          omega (arith, rest, f.0, none, ap (λ n. d * n) none)
      | inr whole ↦ omega (arith, rest, small, breadth-whole bits level whole)
    ]

pub take-digits_after : (level short long w : ℕ) → short ≤ long → take short (digits_after level long w) ≡ digits_after level short w
take-digits_after level zero long w h = refl
take-digits_after level (suc short) zero w h = absurd (omega (arith, h))
take-digits_after level (suc short) (suc long) w h = ap (λ ys. digit w level ∷ ys) (take-digits_after (level + 1) short long w (omega (arith, h)))

-- a word's digits from one level on are those below a later level and those from there on
pub split-digits_after : (level later short rest long w : ℕ) → level + short ≡ later → short + rest ≡ long →
    digits_after level long w ≡ digits_after level short w ++ digits_after later rest w
split-digits_after level later zero rest long w d e =
    let same : long ≡ rest = omega (arith, e) in
    let here : level ≡ later = omega (arith, d) in
    ap (λ n. digits_after level n w) same ∙ ap (λ n. digits_after n rest w) here
split-digits_after level later (suc short) rest zero w d e = absurd (omega (arith, e))
split-digits_after level later (suc short) rest (suc long) w d e =
    ap (λ ys. digit w level ∷ ys) (split-digits_after (level + 1) later short rest long w (omega (arith, d)) (omega (arith, e)))

get-digits_after : (level count w i n : ℕ) → level + i ≡ n → i < count → get_or (digits_after level count w) i 0 ≡ digit w n
get-digits_after level zero w i n e h = absurd (omega (arith, h))
get-digits_after level (suc count) w zero n e h = let here : level ≡ n = omega (arith, e) in ap (λ k. digit w k) here
get-digits_after level (suc count) w (suc i) n e h = get-digits_after (level + 1) count w i n (omega (arith, e)) (omega (arith, h))

pub each-digit : (count w v n : ℕ) → digits_after 0 count w ≡ digits_after 0 count v → n < count → digit w n ≡ digit v n
each-digit count w v n same h =
    sym (get-digits_after 0 count w n n (omega arith) h) ∙ ap (λ ys. get_or ys n 0) same ∙ get-digits_after 0 count v n n (omega arith) h

pub all-digits : (level count w v : ℕ) → ((n : ℕ) → n < level + count → digit w n ≡ digit v n) →
    digits_after level count w ≡ digits_after level count v
all-digits level zero w v same = refl
all-digits level (suc count) w v same =
    let later = all-digits (level + 1) count w v (λ n h. same n (omega (arith, h))) in
    ap (λ n. n ∷ digits_after (level + 1) count w) (same level (omega arith)) ∙ ap (λ ys. digit v level ∷ ys) later
