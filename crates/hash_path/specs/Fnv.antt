-- The hash FNV-1a of as many bits as a path word has, as Glenn Fowler, Landon Curt Noll and Kiem-Phong Vo publish it
-- (http://www.isthe.com/chongo/tech/comp/fnv/).
use Rattle.std.specs.Prelude.{ℕ, ◌*◌, ◌%◌, ◌^◌, ◌<◌, List, [], ◌∷◌, bit_xor}
use Rattle.std.proofs.Common.{lit<}
use Rattle.std.proofs.lemmas.Nat.{mod_below}
use Rattle.hash_path.specs.Widths.{word_bits}

-- where the hash starts
abbrev pub offset_basis : ℕ
offset_basis = 14695981039346656037

-- what each step multiplies by
abbrev pub prime : ℕ
prime = 1099511628211

-- a hash so far with one byte more: exclusive or the byte in, then multiply by the prime
abbrev pub fnv1a_with : ℕ → ℕ → ℕ
fnv1a_with h b = (bit_xor h b * prime) % 2 ^ word_bits

-- the hash of bytes, from a hash so far
abbrev pub fnv1a_from : ℕ → List ℕ → ℕ
fnv1a_from h [] = h
fnv1a_from h (b ∷ bs) = fnv1a_from (fnv1a_with h b) bs

-- the hash of bytes
abbrev pub fnv1a : List ℕ → ℕ
fnv1a = fnv1a_from offset_basis

-- each hash is a path word
pub fnv1a-below : (bytes : List ℕ) → fnv1a bytes < 2 ^ word_bits
fnv1a-below bytes = from offset_basis bytes (lit< tt)
  where
    from : (h : ℕ) (bs : List ℕ) → h < 2 ^ word_bits → fnv1a_from h bs < 2 ^ word_bits
    from h [] small = small
    from h (b ∷ bs) small = from (fnv1a_with h b) bs (mod_below (bit_xor h b * prime) (2 ^ word_bits) (lit< tt))
