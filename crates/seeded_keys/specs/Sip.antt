-- The hash SipHash-1-3 of bytes under 128 bits, as Jean-Philippe Aumasson and Daniel J. Bernstein publish it.
use Rattle.std.specs.Prelude.{ℕ, List}
use Rattle.core.specs.Hash.DefaultHasher.{with_keys, write, finish}
use Rattle.seeded_keys.specs.declared.seed.Seed.{Seed}

-- the hash of the bytes under the seed
abbrev pub siphash : Seed → List ℕ → ℕ
siphash seed bytes = finish (write (with_keys seed.key0 seed.key1) bytes)
