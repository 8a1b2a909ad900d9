-- Texts with their words, as keys of a map.
use Rattle.std.specs.Prelude.{◌≡◌, ◌%◌, ◌^◌, ◌<◌, ℕ, List}
use Rattle.std.specs.declared.cmp.Ordering.{Ordering}
use Rattle.std.specs.declared.cmp.Ordering.TheVariants.{Equal}
use Rattle.std.specs.Ordering.{nat_cmp, ordering_then}
use Rattle.std.specs.FinMap.{nat_cmp-IsAntisymmetric, slice_cmp-IsAntisymmetric}
use Rattle.std.proofs.Common.{ap, lit<}
use Rattle.std.proofs.lemmas.Map.Lookups.{exact_pairs, exact_unsigned}
use Rattle.std.proofs.lemmas.Nat.{mod_below}
use Rattle.hash_path.specs.Widths.{word_bits}
use Rattle.keys.specs.Order.{bytes_cmp}
use Rattle.seeded_keys.specs.declared.seed.Seed.{Seed}
use Rattle.seeded_keys.specs.declared.seeded.SeededText.{SeededText}
use Rattle.seeded_keys.specs.Sip.{siphash}

-- the key that the seed makes of the bytes
abbrev pub seeded : Seed → List ℕ → SeededText
seeded seed bytes = record { text = bytes; word = siphash seed bytes }

-- the path word of a key: its word, which has 64 bits
abbrev pub path_word : SeededText → ℕ
path_word key = key.word % 2 ^ word_bits

-- each path word has 64 bits
pub path_word-below : (key : SeededText) → path_word key < 2 ^ word_bits
path_word-below key = mod_below key.word (2 ^ word_bits) (lit< tt)

-- keys compare by their bytes, and then by their words
abbrev pub seeded_cmp : SeededText → SeededText → Ordering
seeded_cmp a b = ordering_then (bytes_cmp a.text b.text) (nat_cmp a.word b.word)

-- keys that compare equal, by their bytes and then by their words, are one key
pub seeded-exact : (a b : SeededText) → seeded_cmp a b ≡ Equal → a ≡ b
seeded-exact a b equal =
    ap (λ (k : List ℕ × ℕ). record { text = k.0; word = k.1 })
    (exact_pairs bytes_cmp nat_cmp (slice_cmp-IsAntisymmetric nat_cmp-IsAntisymmetric) exact_unsigned (a.text, a.word) (b.text, b.word) equal)
