-- Counts that are added to others, one byte at a time.
use Rattle.std.proofs.Common.{◌≡◌, ℕ, ◌+◌, ◌==◌, Bool, true, false, cond, ◌∷◌, refl, ap, ◌∙◌, arith}
use Rattle.std.specs.BTreeMap.{is_at}
use Rattle.std.specs.Cmp.{eq_by_cmp_equiv, nat_cmp_total}
use Rattle.std.specs.List.Sorted.{IsStrictlySortedBy}
use Rattle.std.specs.Map.{keys_of}
use Rattle.std.specs.Option.{unwrap_or}
use Rattle.std.specs.Ordering.{nat_cmp}
use Rattle.std.proofs.lemmas.Bool.Decides.{nat_tests}
use Rattle.std.proofs.lemmas.Map.{lookup-none}
use Rattle.std.proofs.lemmas.Map.Entries.{lookup_head, lookup_tail, none_past_head}
use Rattle.std.proofs.lemmas.Map.Keys.{IsDistinct-from_sorted}
use Rattle.example_expiry.specs.Initials.{Counts, count_at}

at_byte : (byte other : ℕ) → is_at (nat_cmp byte) other ≡ (byte == other)
at_byte byte other = grind (arith, nat_tests)

module _ (byte first count : ℕ) (rest : Counts) (sorted : IsStrictlySortedBy nat_cmp (keys_of ((first, count) ∷ rest))) where
  first_by : (b : Bool) → (byte == first) ≡ b → count_at ((first, count) ∷ rest) byte ≡ cond b count 0 + count_at rest byte
  first_by true is =
      let here = at_byte byte first ∙ is in
      let found = lookup_head (is_at (nat_cmp byte)) (first, count) rest here in
      let none = lookup-none (is_at (nat_cmp byte)) rest (none_past_head (eq_by_cmp_equiv nat_cmp_total) byte (first, count) rest (IsDistinct-from_sorted nat_cmp _ sorted) here) in
      omega (arith, ap (λ o. unwrap_or o 0) found, ap (λ o. unwrap_or o 0) none)
  first_by false is =
      let passed = lookup_tail (is_at (nat_cmp byte)) (first, count) rest (at_byte byte first ∙ is) in
      omega (arith, ap (λ o. unwrap_or o 0) passed)

  -- no later count is of the first one's byte
  pub first_counts : count_at ((first, count) ∷ rest) byte ≡ cond (byte == first) count 0 + count_at rest byte
  first_counts = first_by (byte == first) refl
