-- The lines of a text, and the fields of a line.
use Rattle.std.specs.Prelude.{ℕ, Bool, ◌||◌, ◌&&◌, not, cond, List, [], ◌∷◌, length, ◌==◌, nat_lt, nat_le, filter, slice_index}
use Rattle.std.specs.List.{onto_first, slice_split, list_all}

-- a 0x0a ends a line, and any other byte goes onto the first line of what follows; where nothing follows there is no line
abbrev pub lines_of : List ℕ → List (List ℕ)
lines_of [] = []
lines_of (b ∷ bytes) = cond (b == 10) ([] ∷ lines_of bytes) (onto_first b (lines_of bytes))

-- the parts between spaces, the empty ones left out
abbrev pub fields_of : List ℕ → List (List ℕ)
fields_of line = filter (λ part. nat_lt 0 (length part)) (slice_split (λ b. b == 32) line)

-- whether the line has no command: it begins with a #, or has spaces alone
abbrev pub is_skipped : List ℕ → Bool
is_skipped line = (slice_index line 0 == 35) || list_all (λ b. b == 32) line

-- whether no line may have the byte, since it is outside 0x20 to 0x7e
abbrev pub is_bad_byte : ℕ → Bool
is_bad_byte b = not (nat_le 32 b && nat_le b 126)
