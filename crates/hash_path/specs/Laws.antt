-- What the crates above may use of words, digits and positions.
use Rattle.std.specs.Prelude.{◌≡◌, ◌↔◌, ℕ, ◌+◌, ◌*◌, ◌^◌, ◌<◌, ◌≤◌, List, length, take, true, nat_eq}
use Rattle.std.specs.List.{starts_with}
use Rattle.std.specs.Ordering.{nat_cmp}
use Rattle.std.specs.Cmp.Lexicographic.{slice_cmp}
use Rattle.hash_path.specs.Digits.{word_bits, word_digits, digit, digits_after, spelled, word_of, breadth, position, lowest}

-- a number is a path word, or a position
abbrev pub IsWord : ℕ → Type 0
IsWord w = w < 2 ^ word_bits

-- each word has a position
abbrev pub PositionIsBelow : Type 0
PositionIsBelow = (w : ℕ) → IsWord w → IsWord (position w)

-- two words have two positions
abbrev pub PositionIsInjective : Type 0
PositionIsInjective = (w v : ℕ) → IsWord w → IsWord v → position w ≡ position v → w ≡ v

-- each position is that of a word
abbrev pub PositionIsOnto : Type 0
PositionIsOnto = (p : ℕ) → IsWord p → (w : ℕ) × IsWord w × (position w ≡ p)

-- positions are in the order in which a dictionary has the words' digits
abbrev pub PositionOrder : Type 0
PositionOrder = (w v : ℕ) → IsWord w → IsWord v → nat_cmp (position w) (position v) ≡ slice_cmp nat_cmp (spelled w) (spelled v)

-- of words that share the digits below a level, the one with the lesser digit there has the lesser position
abbrev pub DigitOrder : Type 0
DigitOrder =
    (level w v : ℕ) → level < word_digits → IsWord w → IsWord v →
    digits_after 0 level w ≡ digits_after 0 level v → digit w level < digit v level → position w < position v

-- the words that share a word's digits below a level are those whose positions lie in one interval:
-- from the position with these digits and zeros, as long as the bits of the other digits allow
abbrev pub DigitInterval : Type 0
DigitInterval =
    (level w v : ℕ) → level ≤ word_digits → IsWord w → IsWord v →
    (digits_after 0 level v ≡ digits_after 0 level w) ↔
    ((lowest (digits_after 0 level w) ≤ position v) × (position v < lowest (digits_after 0 level w) + breadth word_bits level))

-- the same of the words whose digits begin with a prefix, where there is one
abbrev pub PrefixInterval : Type 0
PrefixInterval =
    (prefix : List ℕ) (w v : ℕ) → IsWord w → IsWord v → starts_with nat_eq (spelled w) prefix ≡ true →
    (starts_with nat_eq (spelled v) prefix ≡ true) ↔
    ((lowest prefix ≤ position v) × (position v < lowest prefix + breadth word_bits (length prefix)))

-- the interval of one digit more begins as many of its lengths further up as the digit says
abbrev pub IntervalStep : Type 0
IntervalStep =
    (level w : ℕ) →
    lowest (digits_after 0 (level + 1) w) ≡ lowest (digits_after 0 level w) + digit w level * breadth word_bits (level + 1)

-- a word is the number that its digits spell
abbrev pub WordOfSpelled : Type 0
WordOfSpelled = (w : ℕ) → IsWord w → word_of (spelled w) ≡ w

-- words with the same digits are one
abbrev pub SpelledIsInjective : Type 0
SpelledIsInjective = (w v : ℕ) → IsWord w → IsWord v → spelled w ≡ spelled v → w ≡ v

-- the digits below a level are the first of a word's digits
abbrev pub SpelledPrefix : Type 0
SpelledPrefix = (level w : ℕ) → level ≤ word_digits → take level (spelled w) ≡ digits_after 0 level w

-- two words share the list of the digits below a level exactly where they share each of them
abbrev pub SharedDigits : Type 0
SharedDigits =
    (level w v : ℕ) →
    (digits_after 0 level w ≡ digits_after 0 level v) ↔ ((i : ℕ) → i < level → digit w i ≡ digit v i)
