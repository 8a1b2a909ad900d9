-- Positions and digits of words with any number of bits and digits.
use Rattle.std.proofs.Common.{◌≡◌, ℕ, ◌+◌, ◌-◌, ◌*◌, ◌/◌, ◌%◌, ◌^◌, ◌<◌, ◌≤◌, List, length, take, refl, sym, ◌∙◌, ap, arith}
use Rattle.std.proofs.lemmas.Nat.{mul-le}
use Rattle.std.proofs.Math.Nat.{pow-le-pow_right, div-one, mod-eq_of_lt}
use Rattle.hash_path.specs.Digits.{digit_bits, breadth, weighed, digit, digits_after, word_of}
use Rattle.hash_path.proofs.Weights.{Fits, weighed-below, weighed-append, take-within, weighs}
use Rattle.hash_path.proofs.Spelling.{length-digits_after, word_of-digits_after, digits_after-fit, digits_after-word_of, word_of-below, take-digits_after, split-digits_after}

-- the position of a word of any number of bits and digits
abbrev pub placed : ℕ → ℕ → ℕ → ℕ
placed bits count w = weighed bits 0 (digits_after 0 count w)

-- a position is what the digits below a level weigh and what the others weigh
placed-split : (bits count level rest w : ℕ) → level + rest ≡ count →
    placed bits count w ≡ placed bits level w + weighed bits level (digits_after level rest w)
placed-split bits count level rest w e =
    ap (λ ys. weighed bits 0 ys) (split-digits_after 0 level level rest count w (omega arith) e) ∙
    weighed-append bits 0 level (digits_after 0 level w) (digits_after level rest w)
    (omega (arith, length-digits_after 0 level w))

-- one digit more adds what it weighs
pub placed-step : (bits level w : ℕ) → placed bits (level + 1) w ≡ placed bits level w + digit w level * breadth bits (level + 1)
placed-step bits level w = omega (arith, placed-split bits (level + 1) level 1 w refl)

-- a position has as many bits as its word
pub placed-below : (bits count w : ℕ) → w < 2 ^ bits → placed bits count w < 2 ^ bits
placed-below bits count w small =
    let whole : 2 ^ bits ≡ breadth bits 0 = let all : bits ≡ bits - digit_bits * 0 = omega arith in ap (λ n. 2 ^ n) all in
    let below = weighed-below bits 0 (digits_after 0 count w) (digits_after-fit bits 0 count w small) in
    omega (arith, whole, below)

-- words that share the digits below a level lie in one interval
pub placed-within : (bits count level w v : ℕ) → level ≤ count → v < 2 ^ bits → digits_after 0 level v ≡ digits_after 0 level w →
    (placed bits level w ≤ placed bits count v) × (placed bits count v < placed bits level w + breadth bits level)
placed-within bits count level w v deep small same =
    let rest : ℕ = count - level in
    let split = placed-split bits count level rest v (omega (arith, deep)) in
    let below = weighed-below bits level (digits_after level rest v) (digits_after-fit bits level rest v small) in
    let front = ap (λ ys. weighed bits 0 ys) same in
    (omega (arith, split, front), omega (arith, split, front, below))

-- and what lies in that interval shares those digits
pub within-placed : (bits count level w v : ℕ) → level ≤ count → w < 2 ^ bits → v < 2 ^ bits → placed bits level w ≤ placed bits count v →
    placed bits count v < placed bits level w + breadth bits level → digits_after 0 level v ≡ digits_after 0 level w
within-placed bits count level w v deep small less low high =
    let long : length (digits_after 0 level w) ≡ level = length-digits_after 0 level w in
    let front = take-within bits 0 level (digits_after 0 level w) (digits_after 0 count v) (omega (arith, long))
    (omega (arith, long, length-digits_after 0 count v, deep)) (digits_after-fit bits 0 level w small)
    (digits_after-fit bits 0 count v less) low high in
    sym (take-digits_after 0 level count v deep) ∙ ap (λ n. take n (digits_after 0 count v)) (sym long) ∙ front

-- the first digit that differs decides the order
pub placed-less : (bits count level w v : ℕ) → level < count → w < 2 ^ bits → v < 2 ^ bits → digits_after 0 level w ≡ digits_after 0 level v →
    digit w level < digit v level → placed bits count w < placed bits count v
placed-less bits count level w v deep small less same below =
    let high = placed-within bits count (level + 1) w w (omega (arith, deep)) small refl in
    let low = placed-within bits count (level + 1) v v (omega (arith, deep)) less refl in
    let unit : ℕ = breadth bits (level + 1) in
    let front = ap (λ ys. weighed bits 0 ys) same in
    let next = mul-le (digit w level + 1) unit (digit v level) unit (omega (arith, below)) (omega arith) in
    omega (arith, high.1, low.0, next, front, placed-step bits level w, placed-step bits level v)

-- a word is the number that its digits spell
pub word_of-digits : (bits count w : ℕ) → bits ≤ digit_bits * count → w < 2 ^ bits → word_of (digits_after 0 count w) ≡ w
word_of-digits bits count w enough small =
    let wide = pow-le-pow_right {n = 2} (omega arith) enough in
    let whole : w / 2 ^ (digit_bits * 0) ≡ w = div-one w in
    word_of-digits_after 0 count w ∙ ap (λ n. n % 2 ^ (digit_bits * count)) whole ∙ mod-eq_of_lt (omega (arith, wide, small))

-- the word that digits spell has the position that they weigh
placed-word_of : (bits count : ℕ) (ds : List ℕ) → length ds ≡ count → Fits bits 0 ds → placed bits count (word_of ds) ≡ weighed bits 0 ds
placed-word_of bits count ds many fits =
    let back = digits_after-word_of bits 0 ds (word_of ds) fits (div-one (word_of ds)) in
    ap (λ n. placed bits n (word_of ds)) (sym many) ∙ ap (λ ys. weighed bits 0 ys) back

-- each number of so many bits is the position of a word
pub placed-onto : (bits count p : ℕ) → bits ≤ digit_bits * count → p < 2 ^ bits → (w : ℕ) × (w < 2 ^ bits) × (placed bits count w ≡ p)
placed-onto bits count p enough small =
    let whole : 2 ^ bits ≡ breadth bits 0 = let all : bits ≡ bits - digit_bits * 0 = omega arith in ap (λ n. 2 ^ n) all in
    let found = weighs bits 0 count p (omega (arith, enough)) (omega (arith, whole, small)) in (
      word_of found.digits,
      omega (arith, whole, word_of-below bits 0 found.digits found.fits),
      placed-word_of bits count found.digits found.many found.fits ∙ found.weight,
    )
