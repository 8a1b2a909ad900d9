-- The path words of keys that are made of others.
use Rattle.std.specs.Prelude.{ℕ, ◌++◌, ◌^◌, ◌<◌}
use Rattle.std.specs.Ordering.{ordering_then}
use Rattle.std.specs.Int.{w64, to_le_bytes}
use Rattle.std.specs.declared.cmp.Ordering.{Ordering}
use Rattle.std.proofs.Common.{ap}
use Rattle.std.proofs.lemmas.Map.Lookups.{CmpEqualImpliesEq, exact_pairs}
use Rattle.hash_path.specs.Fnv.{fnv1a, fnv1a-below}
use Rattle.hash_path.specs.Widths.{word_bits}

-- the path word of a pair of keys: the hash of the eight bytes of the first one's word and the eight of the second one's,
-- each little-endian
abbrev pub pair_path : ℕ → ℕ → ℕ
pair_path first second = fnv1a (to_le_bytes w64 first ++ to_le_bytes w64 second)

pub pair_path-below : (first second : ℕ) → pair_path first second < 2 ^ word_bits
pair_path-below first second = fnv1a-below (to_le_bytes w64 first ++ to_le_bytes w64 second)

-- the path word of a triple of keys: the hash of the 24 bytes of their words, each little-endian
abbrev pub triple_path : ℕ → ℕ → ℕ → ℕ
triple_path first second third = fnv1a (to_le_bytes w64 first ++ (to_le_bytes w64 second ++ to_le_bytes w64 third))

pub triple_path-below : (first second third : ℕ) → triple_path first second third < 2 ^ word_bits
triple_path-below first second third = fnv1a-below (to_le_bytes w64 first ++ (to_le_bytes w64 second ++ to_le_bytes w64 third))

-- triples are equal where the orders of their three keys tell all keys apart: as pairs of a pair and a key
pub exact_triples : {A B C : Type 0} (P : A → A → Ordering) (Q : B → B → Ordering) (R : C → C → Ordering) → CmpEqualImpliesEq P → CmpEqualImpliesEq Q → CmpEqualImpliesEq R
    → CmpEqualImpliesEq (λ (x y : A × B × C). ordering_then (ordering_then (P x.0 y.0) (Q x.1 y.1)) (R x.2 y.2))
exact_triples P Q R g h k x y e =
    let both = exact_pairs (λ p q. ordering_then (P p.0 q.0) (Q p.1 q.1)) R (exact_pairs P Q g h) k ((x.0, x.1), x.2) ((y.0, y.1), y.2) e in
    ap (λ t. (t.0.0, t.0.1, t.1)) both
