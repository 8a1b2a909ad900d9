-- Users and numbers of sessions as keys of a map.
use Rattle.std.specs.Prelude.{◌≡◌, ◌++◌, ℕ, List}
use Rattle.std.specs.Int.{w64, to_le_bytes}
use Rattle.std.specs.declared.cmp.Ordering.TheVariants.{Equal}
use Rattle.std.specs.Ordering.{nat_cmp, ordering_then}
use Rattle.std.proofs.Common.{ap}
use Rattle.std.proofs.lemmas.Map.Lookups.{exact_pairs, exact_unsigned}
use Rattle.example_sessions.specs.declared.session_key.SessionKey.{SessionKey}

-- the bytes of a key: those of both fields
abbrev pub bytes_of : SessionKey → List ℕ
bytes_of k = to_le_bytes w64 k.user ++ to_le_bytes w64 k.number

-- keys that compare equal, by the user and then by the number, are one key
pub key-exact : (a b : SessionKey) → ordering_then (nat_cmp a.user b.user) (nat_cmp a.number b.number) ≡ Equal → a ≡ b
key-exact a b equal =
    ap (λ (v : ℕ × ℕ). record { user = v.0; number = v.1 })
    (exact_pairs nat_cmp nat_cmp exact_unsigned exact_unsigned (a.user, a.number) (b.user, b.number) equal)
