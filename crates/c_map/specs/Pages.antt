-- What a page has of a map's pairs.
use Rattle.std.specs.Prelude.{◌≡◌, ℕ, ◌+◌, ◌-◌, ◌^◌, ◌<◌, ◌≤◌, List, [], ◌∷◌, ◌++◌, length, take, drop, min, if◌then◌else◌, nat_lt}
use Rattle.std.specs.List.{flat_map}
use Rattle.std.specs.Int.{w64, to_le_bytes}
use Rattle.hash_path.specs.Fnv.{fnv1a}
use Rattle.keys.specs.Order.{bytes_cmp}
use Rattle.trie_shape.specs.Order.{walked}
use Rattle.c_map.specs.Stored.{Stored}
use Rattle.c_map.specs.declared.answer.Page.{Page}

-- the pairs of a map in the order in which its pages have them
abbrev pub listed : {V : Type 0} → Stored V → List (List ℕ × V)
listed m = walked bytes_cmp fnv1a m.entries

-- a pair as a page has it: the length of its key, the number that is shown of its value, the key, and the value's bytes
abbrev pub spelled : {V : Type 0} → (V → ℕ) → (V → List ℕ) → List ℕ × V → List ℕ
spelled number bytes e = to_le_bytes w64 (length e.0) ++ (to_le_bytes w64 (number e.1) ++ (e.0 ++ bytes e.1))

-- some bytes with others written over them from a place on
abbrev pub written : List ℕ → ℕ → List ℕ → List ℕ
written buffer at bytes = take at buffer ++ (bytes ++ drop (at + length bytes) buffer)

module _ {X : Type 0} (spell : X → List ℕ) where
  -- the bytes of some pairs
  abbrev pub all_spelled : List X → List ℕ
  all_spelled xs = flat_map spell xs

  -- how many bytes the first one takes, or 0; that is said within 64 bits
  abbrev pub first_size : List X → ℕ
  first_size [] = 0
  first_size (x ∷ xs) = min (length (spell x)) (2 ^ 64 - 1)

  -- the first one takes more bytes than there is room for
  abbrev pub HasNoRoom : List X → ℕ → Type 0
  HasNoRoom [] room = Unit {0}
  HasNoRoom (x ∷ xs) room = room < length (spell x)

  -- a page of some pairs: as many of them as there is room for, at the front of the buffer
  pub record IsPage (xs : List X) (before : List ℕ) (page : Page) (now : List ℕ) : Type 0 where
    pub within : page.pairs ≤ length xs
    pub text : now ≡ written before 0 (all_spelled (take page.pairs xs))
    pub most : HasNoRoom (drop page.pairs xs) (length before - length (all_spelled (take page.pairs xs)))
    pub size : page.bytes ≡ (if nat_lt 0 page.pairs then length (all_spelled (take page.pairs xs)) else first_size xs)
