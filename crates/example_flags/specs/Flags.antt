-- Flags as keys of a map.
use Rattle.std.specs.Prelude.{◌≡◌, ◌++◌, ℕ, List}
use Rattle.std.specs.Int.{w64, to_le_bytes}
use Rattle.std.specs.declared.cmp.Ordering.TheVariants.{Equal}
use Rattle.std.specs.Ordering.{nat_cmp, ordering_then}
use Rattle.std.specs.Cmp.Lexicographic.{slice_cmp}
use Rattle.std.proofs.Common.{ap}
use Rattle.std.proofs.lemmas.Map.Lookups.{exact_pairs, exact_bytes}
use Rattle.tambyulo.specs.Fnv.{fnv1a}
use Rattle.example_flags.specs.declared.flag.Flag.{Flag}

-- the bytes of a flag: those of the words of both texts
abbrev pub bytes_of : Flag → List ℕ
bytes_of f = to_le_bytes w64 (fnv1a f.tenant) ++ to_le_bytes w64 (fnv1a f.name)

-- flags that compare equal, by the tenant and then by the name, are one flag
pub flag-exact : (a b : Flag) → ordering_then (slice_cmp nat_cmp a.tenant b.tenant) (slice_cmp nat_cmp a.name b.name) ≡ Equal → a ≡ b
flag-exact a b equal =
    ap (λ (v : List ℕ × List ℕ). record { tenant = v.0; name = v.1 })
    (exact_pairs (slice_cmp nat_cmp) (slice_cmp nat_cmp) exact_bytes exact_bytes (a.tenant, a.name) (b.tenant, b.name) equal)
