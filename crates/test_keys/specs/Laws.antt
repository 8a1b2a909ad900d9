-- The laws of keys, of those with a chosen path.
use Rattle.std.specs.Prelude.{◌≡◌, ℕ, ◌%◌, ◌^◌, ◌<◌}
use Rattle.std.proofs.Common.{ap, lit<}
use Rattle.std.proofs.lemmas.Nat.{mod_below}
use Rattle.std.specs.declared.cmp.Ordering.TheVariants.{Equal}
use Rattle.std.specs.Ordering.{nat_cmp}
use Rattle.std.proofs.lemmas.Map.Lookups.{exact_pairs, exact_unsigned}
use Rattle.hash_path.specs.Widths.{word_bits}
use Rattle.test_keys.specs.declared.chosen.ChosenKey.{ChosenKey}
use Rattle.test_keys.specs.Order.{chosen_cmp}

-- keys with a chosen path that compare equal are one key
pub chosen-exact : (a b : ChosenKey) → chosen_cmp a b ≡ Equal → a ≡ b
chosen-exact a b h =
    ap (λ (p : ℕ × ℕ). record { path = p.0; id = p.1 })
    (exact_pairs nat_cmp nat_cmp exact_unsigned exact_unsigned (a.path, a.id) (b.path, b.id) h)

-- a chosen path is a path word
pub chosen-small : (k : ChosenKey) → k.path % 2 ^ word_bits < 2 ^ word_bits
chosen-small k = mod_below k.path (2 ^ word_bits) (lit< tt)
