-- Visits as keys of a map.
use Rattle.std.specs.Prelude.{◌≡◌, ◌++◌, ℕ, List}
use Rattle.std.specs.Int.{w64, to_le_bytes}
use Rattle.std.specs.declared.cmp.Ordering.TheVariants.{Equal}
use Rattle.std.specs.Ordering.{nat_cmp, ordering_then}
use Rattle.std.proofs.Common.{ap}
use Rattle.std.proofs.lemmas.Map.Lookups.{exact_pairs, exact_unsigned}
use Rattle.example_keys.specs.declared.visit.Visit.{Visit}

-- the bytes of a visit: those of both fields
abbrev pub bytes_of : Visit → List ℕ
bytes_of v = to_le_bytes w64 v.page ++ to_le_bytes w64 v.hour

-- visits that compare equal, by the page and then by the hour, are one visit
pub visit-exact : (a b : Visit) → ordering_then (nat_cmp a.page b.page) (nat_cmp a.hour b.hour) ≡ Equal → a ≡ b
visit-exact a b equal =
    ap (λ (v : ℕ × ℕ). record { page = v.0; hour = v.1 })
    (exact_pairs nat_cmp nat_cmp exact_unsigned exact_unsigned (a.page, a.hour) (b.page, b.hour) equal)
